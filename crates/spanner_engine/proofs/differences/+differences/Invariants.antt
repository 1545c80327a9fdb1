use Rattle.std.proofs.Common.{◌+◌, ◌*◌, take}
use Rattle.spanner_model.specs.Expression.{join_all}
use Rattle.spanner_model.specs.ExprView.{expr_of, exprs_of}
use Rattle.spanner_model.proofs.Nodes.{expr_nodes}
use Rattle.spanner_engine.specs.Touching.{HasMinusIn}
use Rattle.spanner_engine.proofs.MinusWalk.{NoneIs}
use Rattle.spanner_engine.proofs.differences.+differences.Given as goal

abbrev pub decreases-has_minus_in : goal.decreases-has_minus_in
decreases-has_minus_in l = 2 * expr_nodes (expr_of l.expr.now) + 1

abbrev pub decreases-has_minus_among : goal.decreases-has_minus_among
decreases-has_minus_among l = 2 * expr_nodes (join_all (exprs_of l.parts.now))

-- in none of the first k parts
abbrev pub invariant-has_minus_among-loop-k : goal.invariant-has_minus_among-loop-k
invariant-has_minus_among-loop-k l = NoneIs HasMinusIn (take l.k (exprs_of l.parts))
