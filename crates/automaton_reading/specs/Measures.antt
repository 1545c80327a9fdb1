-- What is no more for a reduct than for what it reduces.
use Rattle.std.specs.Prelude.{ℕ, ◌≤◌, Bool, List}
use Rattle.marked_automaton.specs.Automaton.{Automaton}
use Rattle.marked_automaton.specs.Reduct.{Reduces}
use Rattle.automaton_reading.specs.Reading.{edges_K, look_ups_K, weight_K}

-- for every document and all positions K: the edges, the look-ups and the weight
abbrev pub ReductMeasures : Type 0
ReductMeasures =
    (A B : Automaton) → Reduces A B → (d : List ℕ) (K : ℕ → Bool) →
    (edges_K A d K ≤ edges_K B d K) × (look_ups_K A d K ≤ look_ups_K B d K) × (weight_K A d K ≤ weight_K B d K)
