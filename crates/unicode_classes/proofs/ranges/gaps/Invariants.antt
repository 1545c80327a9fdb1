use Rattle.unicode_classes.proofs.RangeLaws.{Gaps}
use Rattle.unicode_classes.proofs.ranges.gaps.Given as goal

abbrev pub invariant-loop-range : goal.invariant-loop-range
invariant-loop-range l = Gaps l.ranges l.set l.range-index l.next
