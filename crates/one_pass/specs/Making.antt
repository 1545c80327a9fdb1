-- Making edges: those that may make a cell.
use Rattle.std.specs.Prelude.{ℕ, ◌+◌, Bool, List, [], ◌∷◌, length, nat_lt, ◌||◌, if◌then◌else◌}
use Rattle.std.specs.List.{sum_by}
use Rattle.std.specs.Str.{bytes_eq}
use Rattle.marked_automaton.specs.Automaton.{Automaton}
use Rattle.automaton_reading.specs.Reading.{Question, Reach, edges, next_sets}

abbrev pub one_if : Bool → ℕ
one_if b = if b then 1 else 0

-- how many edges of the set lead to this set
abbrev pub edges_from : Automaton → Question → List ℕ → List ℕ → ℕ
edges_from A a to set = sum_by (λ (e : Reach). one_if (bytes_eq e.to to)) (edges A set a)

-- and of all these sets
abbrev pub edges_to : Automaton → List (List ℕ) → Question → List ℕ → ℕ
edges_to A sets a to = sum_by (edges_from A a to) sets

-- an edge of one of these sets is a making edge: its block is not empty, or the set has another edge, or another edge
-- leads where it leads
abbrev pub is_making : Automaton → List (List ℕ) → Question → List ℕ → Reach → Bool
is_making A sets a set e = nat_lt 0 e.marks || (nat_lt 1 (length (edges A set a)) || nat_lt 1 (edges_to A sets a e.to))

-- the making edges of one set
abbrev pub making_of : Automaton → List (List ℕ) → Question → List ℕ → ℕ
making_of A sets a set = sum_by (λ (e : Reach). one_if (is_making A sets a set e)) (edges A set a)

-- those of a place
abbrev pub making_at : Automaton → List (List ℕ) → Question → ℕ
making_at A sets a = sum_by (making_of A sets a) sets

-- those on the way
abbrev pub making_read : Automaton → List (List ℕ) → List Question → ℕ
making_read A sets [] = 0
making_read A sets (a ∷ later) = making_at A sets a + making_read A (next_sets A sets a) later
