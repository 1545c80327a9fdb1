use Rattle.std.proofs.Common.{◌≡◌, ℕ, List, length}
use Rattle.segment_filter.specs.Remembered.{AreRemembered}
use Rattle.segment_filter.proofs.comparing.Comparisons.new.Given as goal

abbrev pub invariant-loop : goal.invariant-loop
invariant-loop l = (length l.pairs.items ≡ l.counter) × ((most : ℕ) (sets others : List (List ℕ)) → AreRemembered most sets others l.pairs.items)
