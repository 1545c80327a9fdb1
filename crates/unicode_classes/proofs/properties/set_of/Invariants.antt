use Rattle.std.proofs.Common.{ℕ}
use Rattle.unicode_classes.proofs.PropertyLaws.{AreGathered}
use Rattle.unicode_classes.proofs.properties.set_of.Given as goal

abbrev pub invariant-loop-range : goal.invariant-loop-range
invariant-loop-range l = (next : ℕ) × AreGathered l.range-items l.set l.range-index next
