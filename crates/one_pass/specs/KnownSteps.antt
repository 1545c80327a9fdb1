-- Programs of layers on bytes, each with the number of the layer that it leads to.
use Rattle.std.specs.Prelude.{ℕ, List, [], ◌∷◌, map, slice_index_or}
use Rattle.output_graph.specs.Programs.{Steps, steps_of}

-- a program, and the number of the layer that it leads to
pub record KnownStep : Type 0 where
  pub program : Steps
  pub next : ℕ

abbrev pub known_step_of : Steps → ℕ → KnownStep
known_step_of program next = record { program = program; next = next }

-- each program with the number at its place
abbrev pub known_steps_of : List Steps → List ℕ → List KnownStep
known_steps_of [] numbers = []
known_steps_of (p ∷ programs) [] = []
known_steps_of (p ∷ programs) (n ∷ numbers) = known_step_of p n ∷ known_steps_of programs numbers

abbrev pub programs_of : List KnownStep → List Steps
programs_of steps = map (λ (s : KnownStep). s.program) steps

-- the step of a number
abbrev pub known_step_at : List KnownStep → ℕ → KnownStep
known_step_at steps k = slice_index_or steps k (known_step_of (steps_of [] []) 0)
