use Rattle.std.proofs.Common.{◌+◌, ◌*◌, take}
use Rattle.spanner_model.specs.Expression.{join_all}
use Rattle.spanner_model.specs.ExprView.{expr_of, exprs_of}
use Rattle.spanner_model.specs.Answer.{VarOf}
use Rattle.spanner_model.specs.Gathered.{Adds, vars_in}
use Rattle.spanner_model.proofs.Nodes.{expr_nodes}
use Rattle.spanner_model.proofs.gathering.+expressions.Given as goal

abbrev pub decreases-gather_expr : goal.decreases-gather_expr
decreases-gather_expr l = 2 * expr_nodes (expr_of l.expr.now) + 1

abbrev pub decreases-gather_exprs : goal.decreases-gather_exprs
decreases-gather_exprs l = 2 * expr_nodes (join_all (exprs_of l.parts.now))

abbrev pub invariant-gather_exprs-loop-k : goal.invariant-gather_exprs-loop-k
invariant-gather_exprs-loop-k l = Adds l.initial.into (VarOf (vars_in l.known) (join_all (take l.k (exprs_of l.parts)))) l.into
