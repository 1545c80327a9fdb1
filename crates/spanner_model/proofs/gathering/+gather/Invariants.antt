use Rattle.std.proofs.Common.{◌+◌, ◌*◌, take}
use Rattle.spanner_model.specs.Tree.{cat_all}
use Rattle.spanner_model.specs.View.{tree_of, trees_of}
use Rattle.spanner_model.specs.Sequential.{HasVar}
use Rattle.spanner_model.specs.Gathered.{Adds}
use Rattle.spanner_model.proofs.Nodes.{nodes}
use Rattle.spanner_model.proofs.gathering.+gather.Given as goal

abbrev pub decreases-gather_formula : goal.decreases-gather_formula
decreases-gather_formula l = 2 * nodes (tree_of l.formula.now) + 1

abbrev pub decreases-gather_parts : goal.decreases-gather_parts
decreases-gather_parts l = 2 * nodes (cat_all (trees_of l.parts.now))

abbrev pub invariant-gather_parts-loop-k : goal.invariant-gather_parts-loop-k
invariant-gather_parts-loop-k l = Adds l.initial.into (HasVar (cat_all (take l.k (trees_of l.parts)))) l.into
