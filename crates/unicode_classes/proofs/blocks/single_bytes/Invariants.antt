use Rattle.unicode_classes.proofs.SingleBytes.{AreShifted}
use Rattle.unicode_classes.proofs.blocks.single_bytes.Given as goal

abbrev pub invariant-loop-range : goal.invariant-loop-range
invariant-loop-range l = AreShifted l.base l.ranges l.bytes l.range-index
