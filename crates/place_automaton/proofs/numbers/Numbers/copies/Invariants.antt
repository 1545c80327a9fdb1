use Rattle.place_automaton.specs.Counts.{PlaceCounts, counts_copies}
use Rattle.place_automaton.specs.Capped.{AreCapped}
use Rattle.place_automaton.proofs.NullCounts.{AreZero}
use Rattle.place_automaton.proofs.numbers.Numbers.copies.Given as goal

abbrev pub invariant-loop-copy : goal.invariant-loop-copy
invariant-loop-copy l = AreZero l.numbers.null.items × ((a b : PlaceCounts) → AreCapped a l.self → AreCapped b l.fn.rest → AreCapped (counts_copies l._copy a b) l.numbers)
