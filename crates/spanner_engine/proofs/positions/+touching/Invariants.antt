use Rattle.std.proofs.Common.{◌+◌, ◌*◌, ◌≤◌, take}
use Rattle.spanner_model.specs.Expression.{join_all}
use Rattle.spanner_model.specs.ExprView.{expr_of, exprs_of}
use Rattle.spanner_model.proofs.Nodes.{expr_nodes}
use Rattle.spanner_engine.specs.Touching.{SomeAtom}
use Rattle.spanner_engine.specs.Filtering.{AddsTouched, IsHeavy, steps_in}
use Rattle.spanner_engine.proofs.positions.+touching.Given as goal

abbrev pub decreases-touched_in : goal.decreases-touched_in
decreases-touched_in g l = 2 * expr_nodes (expr_of l.expr.now) + 1

abbrev pub decreases-touched_among : goal.decreases-touched_among
decreases-touched_among g l = 2 * expr_nodes (join_all (exprs_of l.parts.now))

-- what the first k parts touch is found, and none of their atoms is heavy
abbrev pub invariant-touched_among-loop-k : goal.invariant-touched_among-loop-k
invariant-touched_among-loop-k g l =
    AddsTouched l.doc (join_all (take l.k (exprs_of l.parts))) l.fn.before l.found × (l.steps ≤ l.fn.steps + steps_in l.doc (join_all (take l.k (exprs_of l.parts))))
    × ¬ SomeAtom (IsHeavy l.doc l.limit) (join_all (take l.k (exprs_of l.parts)))
