-- The numbers of an atom are those of its automaton.
use Rattle.std.specs.Prelude.{◌≡◌, IsFalse, [], length}
use Rattle.spanner_model.specs.Functional.{IsFunctional}
use Rattle.spanner_model.specs.Expression.{AtomTree}
use Rattle.place_automaton.specs.Counts.{count_states, count_ways, has_large_null}
use Rattle.place_automaton.specs.PlainCounts.{plain_states, plain_ways}
use Rattle.place_automaton.specs.Repeats.{HasOrderedRepeats}
use Rattle.place_automaton.specs.Variables.{with_vars}
use Rattle.place_automaton.specs.Words.{atom_automaton}

-- whatever the formula; the ways where no null is large
abbrev pub CountLaw : Type 0
CountLaw =
    (a : AtomTree) →
    ((atom_automaton (with_vars [] a.formula) a).states ≡ count_states a)
    × (IsFalse (has_large_null a.formula) → length (atom_automaton (with_vars [] a.formula) a).ways ≡ count_ways a)

-- of a functional formula they are those that do not look at markers
abbrev pub FunctionalCountLaw : Type 0
FunctionalCountLaw =
    (a : AtomTree) → IsFunctional a.formula → HasOrderedRepeats a.formula → (count_states a ≡ plain_states a) × (count_ways a ≡ plain_ways a)
