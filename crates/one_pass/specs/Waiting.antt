-- Sets of states that lead back to themselves.
use Rattle.std.specs.Prelude.{◌≡◌, ◌↔◌, ℕ, List, []}
use Rattle.marked_automaton.specs.Automaton.{Automaton}
use Rattle.one_pass.specs.Places.{Leads, ReadingPlace, bytes_at}
use Rattle.node_arena.specs.Words.{Word}

-- over these places the set leads to itself alone, without marks
abbrev pub LeadsHome : Automaton → List ReadingPlace → List ℕ → Type 0
LeadsHome A ps set = (w : Word) (to : List ℕ) → Leads A ps set w to ↔ ((w ≡ []) × (to ≡ set))

-- and over these bytes, wherever they stand
abbrev pub LeadsBack : Automaton → List ℕ → List ℕ → Type 0
LeadsBack A set bytes = (i : ℕ) → LeadsHome A (bytes_at i bytes) set
