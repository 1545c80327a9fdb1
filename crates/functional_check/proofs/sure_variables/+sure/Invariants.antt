use Rattle.std.proofs.Common.{◌+◌, ◌*◌, [], take}
use Rattle.spanner_model.specs.Tree.{cat_all}
use Rattle.spanner_model.specs.View.{tree_of, trees_of}
use Rattle.spanner_model.specs.Sequential.{IsSure}
use Rattle.spanner_model.specs.Gathered.{Adds}
use Rattle.spanner_model.proofs.Nodes.{nodes}
use Rattle.functional_check.specs.Numbered.{members}
use Rattle.functional_check.proofs.SureLaws.{AreSureInAll}
use Rattle.functional_check.proofs.sure_variables.+sure.Given as goal

abbrev pub decreases-sure_among : goal.decreases-sure_among
decreases-sure_among l = 2 * nodes (tree_of l.formula.now) + 1

abbrev pub decreases-sure_in_some : goal.decreases-sure_in_some
decreases-sure_in_some l = 2 * nodes (cat_all (trees_of l.parts.now))

abbrev pub decreases-sure_in_all : goal.decreases-sure_in_all
decreases-sure_in_all l = 2 * nodes (cat_all (trees_of l.arms.now))

abbrev pub invariant-sure_in_some-loop-k : goal.invariant-sure_in_some-loop-k
invariant-sure_in_some-loop-k l = Adds [] (IsSure (cat_all (take l.k (trees_of l.parts)))) (members l.names l.vars)

abbrev pub invariant-sure_in_all-loop-k : goal.invariant-sure_in_all-loop-k
invariant-sure_in_all-loop-k l = AreSureInAll (take l.k (trees_of l.arms)) (members l.names l.vars)
