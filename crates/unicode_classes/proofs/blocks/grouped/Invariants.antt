use Rattle.unicode_classes.specs.Grouped.{AreGrouped}
use Rattle.unicode_classes.proofs.blocks.grouped.Given as goal

abbrev pub invariant-loop-digit : goal.invariant-loop-digit
invariant-loop-digit l = AreGrouped l.base l.unit l.ranges l.digit l.groups.items
