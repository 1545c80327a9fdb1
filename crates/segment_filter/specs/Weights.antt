-- What the two readings of an atom come to.
use Rattle.std.specs.Prelude.{ℕ, ◌+◌, ◌*◌, ◌<◌, ◌≤◌, List, [], ◌∷◌, ◌++◌, length, map, reverse}
use Rattle.std.specs.List.{sum_by}
use Rattle.std.specs.Str.{bytes_eq}
use Rattle.marked_automaton.specs.Automaton.{Automaton, size}
use Rattle.automaton_reading.specs.Reading.{Question, LookUp, byte_read, next_sets, once, look_up_edges, look_up_same, look_ups_asked, set_of}
use Rattle.segment_filter.specs.declared.fault.FilterFault.{FilterFault}
use Rattle.segment_filter.specs.declared.fault.FilterFault.TheVariants.{Full, OutOfMemory}

-- the sets that are reached, from these on, place by place
abbrev pub sets_asked : Automaton → List (List ℕ) → List Question → List (List ℕ)
sets_asked A sets [] = sets
sets_asked A sets (a ∷ later) = sets ++ sets_asked A (next_sets A sets a) later

abbrev pub sets_read : Automaton → List ℕ → List (List ℕ)
sets_read A d = sets_asked A (set_of A.starts ∷ []) (map byte_read d)

-- a reached set with the byte that is read from it
abbrev pub bytes_read : Automaton → List ℕ → List LookUp
bytes_read A d = look_ups_asked A (set_of A.starts ∷ []) (map byte_read d)

-- 1 + members of each set, and 1 + edges of each look-up
abbrev pub reading_weight : Automaton → List ℕ → ℕ
reading_weight A d =
    sum_by (λ set. 1 + length set) (once bytes_eq (sets_read A d)) + sum_by (λ r. 1 + look_up_edges A r) (once look_up_same (bytes_read A d))

abbrev pub reading_look_ups : Automaton → List ℕ → ℕ
reading_look_ups A d = length (once look_up_same (bytes_read A d))

-- what both readings weigh, and how many steps they take
abbrev pub both_weigh : Automaton → Automaton → List ℕ → ℕ
both_weigh F R d = reading_weight R (reverse d) + reading_weight F d

abbrev pub both_take : Automaton → Automaton → List ℕ → ℕ
both_take F R d = 2 * (length d + 1) + size R * reading_look_ups R (reverse d) + size F * reading_look_ups F d

-- the limit is passed, by a weight that is no more than this
abbrev pub IsFullWithin : ℕ → ℕ → FilterFault → Type 0
IsFullWithin limit most (Full w) = (limit < w) × (w ≤ most)
IsFullWithin limit most OutOfMemory = Unit {0}
