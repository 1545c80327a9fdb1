use Rattle.std.proofs.Common.{take}
use Rattle.spanner_model.specs.Captures.{VarName}
use Rattle.spanner_model.specs.Expression.{ExprTree}
use Rattle.spanner_model.specs.ExprView.{query_of}
use Rattle.spanner_engine.specs.Touching.{HasMinusIn}
use Rattle.spanner_engine.proofs.MinusWalk.{NoneIs}
use Rattle.spanner_engine.proofs.differences.has_minus.Given as goal

-- in none of the first k lets
abbrev pub invariant-loop-k : goal.invariant-loop-k
invariant-loop-k l = NoneIs (λ (m : VarName × ExprTree). HasMinusIn m.1) (take l.k (query_of l.query).lets)
