-- What the filter of an atom comes to: the weight and the look-ups of its two readings.
use Rattle.std.specs.Prelude.{◌≡◌, ℕ, zero, suc, ◌+◌, ◌-◌, ◌*◌, ◌≤◌, Bool, List, [], ◌∷◌, ◌++◌, length, map, reverse, ◌&&◌}
use Rattle.std.specs.List.{flat_map}
use Rattle.std.specs.Str.{bytes_eq}
use Rattle.spanner_model.specs.Captures.{VarName}
use Rattle.spanner_model.specs.Expression.{AtomTree}
use Rattle.marked_automaton.specs.Automaton.{Automaton, reversed, size}
use Rattle.marked_automaton.specs.Marks.{remarked}
use Rattle.automaton_reading.specs.Reading.{Question, byte_read, next_sets, once, set_of}
use Rattle.place_automaton.specs.Words.{atom_automaton}
use Rattle.place_automaton.specs.Variables.{with_vars}
use Rattle.segment_filter.specs.Sharing.{from_the_start}
use Rattle.segment_filter.specs.Weights.{both_weigh, reading_look_ups, reading_weight}

-- forwards: the atom's automaton without markers
abbrev pub forward_of : List VarName → AtomTree → Automaton
forward_of names a = remarked (λ m. 0) (atom_automaton names a)

-- backwards: the same without the way of Before to itself, that is, of the atom tied to the start, turned round
abbrev pub backward_of : List VarName → AtomTree → Automaton
backward_of names a = reversed (remarked (λ m. 0) (atom_automaton names (from_the_start a)))

-- the set that is reached after so many places, if there is any
abbrev pub sets_after : Automaton → List (List ℕ) → List Question → ℕ → List (List ℕ)
sets_after A sets asks zero = sets
sets_after A sets [] (suc k) = []
sets_after A sets (a ∷ later) (suc k) = sets_after A (next_sets A sets a) later k

abbrev pub sets_here : Automaton → List ℕ → ℕ → List (List ℕ)
sets_here A d k = sets_after A (set_of A.starts ∷ []) (map byte_read d) k

-- the numbers below n
abbrev pub below : ℕ → List ℕ
below zero = []
below (suc n) = below n ++ n ∷ []

abbrev pub pair_same : List ℕ × List ℕ → List ℕ × List ℕ → Bool
pair_same p q = bytes_eq p.0 q.0 && bytes_eq p.1 q.1

-- the pairs of a forward set and a backward set that stand at one position
abbrev pub pairs_at : Automaton → Automaton → List ℕ → ℕ → List (List ℕ × List ℕ)
pairs_at F R d i = flat_map (λ f. map (λ b. (f, b)) (sets_here R (reverse d) (length d - i))) (sets_here F d i)

abbrev pub pairs_met : Automaton → Automaton → List ℕ → ℕ
pairs_met F R d = length (once pair_same (flat_map (pairs_at F R d) (below (length d + 1))))

abbrev pub filter_weight : List VarName → AtomTree → List ℕ → ℕ
filter_weight names a d =
    reading_weight (forward_of names a) d + reading_weight (backward_of names a) (reverse d) + pairs_met (forward_of names a) (backward_of names a) d

abbrev pub filter_look_ups : List VarName → AtomTree → List ℕ → ℕ
filter_look_ups names a d =
    reading_look_ups (forward_of names a) d + reading_look_ups (backward_of names a) (reverse d) + pairs_met (forward_of names a) (backward_of names a) d

-- what the two readings of an atom weigh, and how many steps finding what it touches may take
abbrev pub atom_weight : AtomTree → List ℕ → ℕ
atom_weight a d = filter_weight (with_vars [] a.formula) a d

-- what the two readings weigh, without the pairs in which they meet
abbrev pub readings_weight : AtomTree → List ℕ → ℕ
readings_weight a d = both_weigh (forward_of (with_vars [] a.formula) a) (backward_of (with_vars [] a.formula) a) d

abbrev pub touching_steps : AtomTree → List ℕ → ℕ
touching_steps a d = 4 * (length d + 1) + (1 + size (atom_automaton (with_vars [] a.formula) a)) * filter_look_ups (with_vars [] a.formula) a d

-- two automata that cost as much as these two, and are no larger than the atom's
pub record CostAs (names : List VarName) (a : AtomTree) (F R : Automaton) : Type 0 where
  pub ahead : (d : List ℕ) → (reading_weight F d ≡ reading_weight (forward_of names a) d) × (reading_look_ups F d ≡ reading_look_ups (forward_of names a) d)
  pub behind : (d : List ℕ) → (reading_weight R d ≡ reading_weight (backward_of names a) d) × (reading_look_ups R d ≡ reading_look_ups (backward_of names a) d)
  pub ahead_size : size F ≤ size (atom_automaton names a)
  pub behind_size : size R ≤ size (atom_automaton names a)
