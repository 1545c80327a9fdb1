use Rattle.std.proofs.Common.{◌+◌, ◌*◌, take}
use Rattle.spanner_model.specs.Expression.{union_all, join_all}
use Rattle.spanner_model.specs.ExprView.{expr_of, exprs_of}
use Rattle.spanner_model.proofs.Nodes.{expr_nodes}
use Rattle.query_parser.specs.Bounds.{IsBoundOf, bound_in, bounds_in, vars_known, sure_known}
use Rattle.query_parser.proofs.CheckLaws.{AllPass, IsFirstClash}
use Rattle.query_parser.proofs.check.+check.Given as goal

abbrev pub decreases-check_expr : goal.decreases-check_expr
decreases-check_expr l = 2 * expr_nodes (expr_of l.expr.now) + 1

abbrev pub decreases-check_union : goal.decreases-check_union
decreases-check_union l = 2 * expr_nodes (join_all (exprs_of l.parts.now))

abbrev pub decreases-check_join : goal.decreases-check_join
decreases-check_join l = 2 * expr_nodes (join_all (exprs_of l.parts.now))

abbrev pub invariant-check_join-loop-k : goal.invariant-check_join-loop-k
invariant-check_join-loop-k l = record {
  passed : AllPass (vars_known (bounds_in l.names l.known)) (sure_known (bounds_in l.names l.known)) (take l.k (exprs_of l.parts));
  bound : IsBoundOf (vars_known (bounds_in l.names l.known)) (sure_known (bounds_in l.names l.known)) (join_all (take l.k (exprs_of l.parts))) (bound_in l.names l.bound);
  first : IsFirstClash (vars_known (bounds_in l.names l.known)) (sure_known (bounds_in l.names l.known)) (take l.k (exprs_of l.parts)) l.clash;
}

abbrev pub invariant-check_union-loop-k : goal.invariant-check_union-loop-k
invariant-check_union-loop-k l = record {
  passed : AllPass (vars_known (bounds_in l.names l.known)) (sure_known (bounds_in l.names l.known)) (take l.k (exprs_of l.parts));
  bound : IsBoundOf (vars_known (bounds_in l.names l.known)) (sure_known (bounds_in l.names l.known)) (union_all (take l.k (exprs_of l.parts))) (bound_in l.names l.bound);
}
