use Rattle.place_automaton.specs.Counts.{PlaceCounts, counts_at_most}
use Rattle.place_automaton.specs.Capped.{AreCapped}
use Rattle.place_automaton.proofs.NullCounts.{AreZero}
use Rattle.place_automaton.proofs.numbers.Numbers.at_most.Given as goal

abbrev pub invariant-loop-copy : goal.invariant-loop-copy
invariant-loop-copy l = AreZero l.numbers.null.items × ((a : PlaceCounts) → AreCapped a l.self → AreCapped (counts_at_most l._copy a) l.numbers)
