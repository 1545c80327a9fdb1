use Rattle.std.proofs.Common.{◌+◌, ◌*◌, take}
use Rattle.spanner_model.specs.View.{tree_of, trees_of}
use Rattle.spanner_model.specs.Tree.{cat_all}
use Rattle.spanner_model.proofs.Nodes.{nodes}
use Rattle.spanner_model.specs.Sequential.{HasNoVar}
use Rattle.plain_spanner.proofs.bare.+bare.Given as goal

abbrev pub decreases-is_bare : goal.decreases-is_bare
decreases-is_bare l = 2 * nodes (tree_of l.formula.now) + 1

abbrev pub decreases-are_bare : goal.decreases-are_bare
decreases-are_bare l = 2 * nodes (cat_all (trees_of l.parts.now))

abbrev pub invariant-are_bare-loop-k : goal.invariant-are_bare-loop-k
invariant-are_bare-loop-k l = HasNoVar (cat_all (take l.k (trees_of l.parts)))
