use Rattle.std.proofs.Common.{◌-◌}
use Rattle.unicode_classes.specs.Arms.{arm_trees, AreProper}
use Rattle.unicode_classes.proofs.TreeLaws.{AreArmsOf}
use Rattle.unicode_classes.proofs.blocks.+block_formula.Given as goal

abbrev pub decreases-block_formula : goal.decreases-block_formula
decreases-block_formula l = l.tails

abbrev pub invariant-loop-group : goal.invariant-loop-group
invariant-loop-group l = record {
  proper : AreProper l.arms;
  trees : AreArmsOf (l.tails - 1) l.group-items l.group-index (arm_trees l.arms);
}
