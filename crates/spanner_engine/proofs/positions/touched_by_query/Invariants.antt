use Rattle.std.proofs.Common.{◌+◌, ◌≤◌, [], take}
use Rattle.spanner_model.specs.Expression.{join_all}
use Rattle.spanner_model.specs.ExprView.{query_of}
use Rattle.spanner_engine.specs.Touching.{SomeAtom}
use Rattle.spanner_engine.specs.Filtering.{AddsTouched, IsHeavy, steps_in}
use Rattle.spanner_engine.proofs.AtomWalk.{let_exprs}
use Rattle.spanner_engine.proofs.positions.touched_by_query.Given as goal

-- what the first k lets touch is found, and none of their atoms is heavy
abbrev pub invariant-loop-k : goal.invariant-loop-k
invariant-loop-k g l =
    AddsTouched l.doc (join_all (take l.k (let_exprs (query_of l.query).lets))) [] l.found × (l.steps ≤ l.fn.steps + steps_in l.doc (join_all (take l.k (let_exprs (query_of l.query).lets))))
    × ¬ SomeAtom (IsHeavy l.doc l.limit) (join_all (take l.k (let_exprs (query_of l.query).lets)))
