use Rattle.unicode_classes.proofs.RangeLaws.{Taken}
use Rattle.unicode_classes.proofs.ranges.part_of.Given as goal

abbrev pub invariant-loop-range : goal.invariant-loop-range
invariant-loop-range l = Taken l.ranges l.set l.range-index l.from l.end l.origin
