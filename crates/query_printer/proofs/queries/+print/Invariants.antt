use Rattle.std.proofs.Common.{◌≡◌, ◌+◌, ◌*◌, ◌++◌, map}
use Rattle.std.specs.Prelude.{codes}
use Rattle.span_core.specs.Lists.{IsPrefixOf}
use Rattle.spanner_model.specs.Expression.{join_all}
use Rattle.spanner_model.specs.ExprView.{expr_of, exprs_of, lets_of}
use Rattle.spanner_model.proofs.Nodes.{expr_nodes}
use Rattle.query_parser.specs.Spells.{names_of}
use Rattle.query_printer.specs.PrintedQuery.{joined}
use Rattle.query_printer.proofs.PrintedParts.{texts_from, conj_text, unit_text}
use Rattle.query_printer.proofs.queries.+print.Given as goal

abbrev pub decreases-push_expr : goal.decreases-push_expr
decreases-push_expr l = 3 * expr_nodes (expr_of l.expr.now) + 1

abbrev pub decreases-push_wrapped : goal.decreases-push_wrapped
decreases-push_wrapped l = 3 * expr_nodes (expr_of l.expr.now) + 2

abbrev pub decreases-push_projection : goal.decreases-push_projection
decreases-push_projection l = 3 * expr_nodes (expr_of l.sub.now) + 2

abbrev pub decreases-push_difference : goal.decreases-push_difference
decreases-push_difference l = 3 * (expr_nodes (expr_of l.left.now) + expr_nodes (expr_of l.right.now)) + 3

abbrev pub decreases-push_union : goal.decreases-push_union
decreases-push_union l = 3 * expr_nodes (join_all (exprs_of l.parts.now))

abbrev pub decreases-push_join : goal.decreases-push_join
decreases-push_join l = 3 * expr_nodes (join_all (exprs_of l.parts.now))

abbrev pub invariant-push_union-loop-k : goal.invariant-push_union-loop-k
invariant-push_union-loop-k l = record {
  printed : l.out.items ++ texts_from (codes " union ") l.k (map (conj_text (names_of (lets_of l.lets))) (exprs_of l.parts))
      ≡ l.fn.out.items ++ joined (codes " union ") (map (conj_text (names_of (lets_of l.lets))) (exprs_of l.parts));
  front : IsPrefixOf l.fn.out.items l.out.items;
}

abbrev pub invariant-push_join-loop-k : goal.invariant-push_join-loop-k
invariant-push_join-loop-k l = record {
  printed : l.out.items ++ texts_from (codes " join ") l.k (map (unit_text (names_of (lets_of l.lets))) (exprs_of l.parts))
      ≡ l.fn.out.items ++ joined (codes " join ") (map (unit_text (names_of (lets_of l.lets))) (exprs_of l.parts));
  front : IsPrefixOf l.fn.out.items l.out.items;
}
