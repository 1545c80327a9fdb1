use Rattle.std.proofs.Common.{◌≡◌, ◌+◌, ◌*◌, ◌++◌, drop}
use Rattle.span_core.specs.Lists.{IsPrefixOf}
use Rattle.spanner_model.specs.Tree.{cat_all, alt_all}
use Rattle.spanner_model.specs.View.{tree_of, trees_of}
use Rattle.spanner_model.proofs.Nodes.{nodes}
use Rattle.query_printer.specs.PrintedFormula.{printed}
use Rattle.query_printer.proofs.PrintedTrees.{arms_from}
use Rattle.query_printer.proofs.formulas.+print.Given as goal

abbrev pub decreases-push_formula : goal.decreases-push_formula
decreases-push_formula l = 3 * nodes (tree_of l.formula.now) + 1

abbrev pub decreases-push_wrapped : goal.decreases-push_wrapped
decreases-push_wrapped l = 3 * nodes (tree_of l.formula.now) + 2

abbrev pub decreases-push_repeat : goal.decreases-push_repeat
decreases-push_repeat l = 3 * nodes (tree_of l.sub.now) + 3

abbrev pub decreases-push_capture : goal.decreases-push_capture
decreases-push_capture l = 3 * nodes (tree_of l.sub.now) + 2

abbrev pub decreases-push_parts : goal.decreases-push_parts
decreases-push_parts l = 3 * nodes (cat_all (trees_of l.parts.now))

abbrev pub decreases-push_arms : goal.decreases-push_arms
decreases-push_arms l = 3 * nodes (alt_all (trees_of l.arms.now))

abbrev pub invariant-push_parts-loop-k : goal.invariant-push_parts-loop-k
invariant-push_parts-loop-k l = record {
  printed : l.out.items ++ printed (cat_all (drop l.k (trees_of l.parts))) ≡ l.fn.out.items ++ printed (cat_all (trees_of l.parts));
  front : IsPrefixOf l.fn.out.items l.out.items;
}

abbrev pub invariant-push_arms-loop-k : goal.invariant-push_arms-loop-k
invariant-push_arms-loop-k l = record {
  printed : l.out.items ++ arms_from l.k (trees_of l.arms) ≡ l.fn.out.items ++ printed (alt_all (trees_of l.arms));
  front : IsPrefixOf l.fn.out.items l.out.items;
}
