use Rattle.std.proofs.Common.{◌+◌, ◌*◌, ◌↔◌, [], take}
use Rattle.span_core.specs.Lists.{Has}
use Rattle.spanner_model.specs.Tree.{cat_all}
use Rattle.spanner_model.specs.View.{tree_of, trees_of}
use Rattle.spanner_model.specs.Sequential.{HasVar}
use Rattle.spanner_model.specs.Gathered.{Adds}
use Rattle.spanner_model.proofs.Nodes.{nodes}
use Rattle.spanner_model.specs.Captures.{VarName}
use Rattle.functional_check.specs.Faults.{InTwoParts}
use Rattle.functional_check.specs.Numbered.{members}
use Rattle.functional_check.proofs.PartFaults.{AllSequential}
use Rattle.functional_check.proofs.checking.+check.Given as goal

abbrev pub decreases-check_among : goal.decreases-check_among
decreases-check_among l = 2 * nodes (tree_of l.formula.now) + 1

abbrev pub decreases-check_parts : goal.decreases-check_parts
decreases-check_parts l = 2 * nodes (cat_all (trees_of l.parts.now))

abbrev pub decreases-check_arms : goal.decreases-check_arms
decreases-check_arms l = 2 * nodes (cat_all (trees_of l.arms.now))

abbrev pub invariant-check_parts-loop-k : goal.invariant-check_parts-loop-k
invariant-check_parts-loop-k l = record {
  sequential : AllSequential (take l.k (trees_of l.parts));
  vars : Adds [] (HasVar (cat_all (take l.k (trees_of l.parts)))) (members l.names l.vars);
  twice : (x : VarName) → Has (members l.names l.twice) x ↔ InTwoParts (cat_all (take l.k (trees_of l.parts))) x;
}

abbrev pub invariant-check_arms-loop-k : goal.invariant-check_arms-loop-k
invariant-check_arms-loop-k l = record {
  sequential : AllSequential (take l.k (trees_of l.arms));
  vars : Adds [] (HasVar (cat_all (take l.k (trees_of l.arms)))) (members l.names l.vars);
}
