use Rattle.std.proofs.Common.{◌+◌, ◌*◌, length, take}
use Rattle.spanner_model.specs.Expression.{union_all, join_all}
use Rattle.spanner_model.specs.ExprView.{expr_of, exprs_of, query_of}
use Rattle.spanner_model.proofs.Nodes.{expr_nodes}
use Rattle.plain_spanner.specs.Tables.{IsTableOf}
use Rattle.plain_spanner.proofs.tables.+tables.Given as goal

abbrev pub decreases-expr_table : goal.decreases-expr_table
decreases-expr_table l = 2 * expr_nodes (expr_of l.expr.now) + 1

abbrev pub decreases-union_table : goal.decreases-union_table
decreases-union_table l = 2 * expr_nodes (join_all (exprs_of l.parts.now))

abbrev pub decreases-join_table : goal.decreases-join_table
decreases-join_table l = 2 * expr_nodes (join_all (exprs_of l.parts.now))

abbrev pub invariant-union_table-loop-k : goal.invariant-union_table-loop-k
invariant-union_table-loop-k l = IsTableOf (query_of l.query) l.doc (length l.tables) (union_all (take l.k (exprs_of l.parts))) l.all.names l.all.rows.items

abbrev pub invariant-join_table-loop-k : goal.invariant-join_table-loop-k
invariant-join_table-loop-k l = IsTableOf (query_of l.query) l.doc (length l.tables) (join_all (take l.k (exprs_of l.parts))) l.all.names l.all.rows.items
