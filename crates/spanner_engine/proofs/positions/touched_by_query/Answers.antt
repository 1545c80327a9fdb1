use Rattle.std.proofs.Common.{ℕ, ◌≤◌, ◌↔◌, true, List, [], length, arith}
use Rattle.std.proofs.lemmas.Result.{IfOk-weaker, on_ok_weaker, IfErr-weaker}
use Rattle.spanner_model.specs.Captures.{VarName}
use Rattle.spanner_model.specs.Expression.{ExprTree}
use Rattle.spanner_model.specs.ExprView.{expr_of, query_of}
use Rattle.spanner_engine.specs.Touching.{TouchedOf}
use Rattle.span_core.specs.Intervals.{Covers}
use Rattle.spanner_engine.specs.Filtering.{AddsTouched, HasFullAtom, IsFilterFault, IsHeavy}
use Rattle.spanner_engine.proofs.AtomWalk.{body_sound, full_body, full_let, let_at, let_exprs, let_sound, none_more, none_of, steps_body, steps_let, steps_more, touched_more, touched_of}
use Rattle.spanner_engine.proofs.Results.{handed_on}
use Rattle.spanner_engine.proofs.positions.touched_by_query.Goals as goal

pub touched_in-requires-clause-sound : goal.touched_in-requires-clause-sound
touched_in-requires-clause-sound g c =
    let l : VarName × ExprTree = (c.at.result.now.0, expr_of c.at.result.now.1) in
    let_sound (query_of c.args.query.now) c.loop-k.k l c.requires.sound c.at.ensures

pub returns-in_err-found-clause-fault : goal.returns-in_err-found-clause-fault
returns-in_err-found-clause-fault g c =
    let d = c.args.doc.now in
    let q = query_of c.args.query.now in
    let l : VarName × ExprTree = (c.at.result.now.0, expr_of c.at.result.now.1) in
    let fault = c.in_err-found.field-0.0 in
    handed_on (IsFilterFault q d true c.args.limit) c.from_residual.result fault c.from_residual.ensures.1
    (full_let d c.args.limit q c.requires.plain c.loop-k.k l c.at.ensures fault c.in_err-found.ensures.fault)

pub returns-in_err-found-clause-steps : goal.returns-in_err-found-clause-steps
returns-in_err-found-clause-steps g c =
    let l : VarName × ExprTree = (c.at.result.now.0, expr_of c.at.result.now.1) in
    steps_let c.args.doc.now (query_of c.args.query.now) c.loop-k.k c.args.steps.now c.loop-k.steps c.touched_in.new.steps c.loop-k.invariant.1 l c.at.ensures c.in_err-found.ensures.steps

pub loop-k-preserved : goal.loop-k-preserved
loop-k-preserved g c =
    let d = c.args.doc.now in
    let lets = (query_of c.args.query.now).lets in
    let l : VarName × ExprTree = (c.at.result.now.0, expr_of c.at.result.now.1) in
    let at = let_at lets c.loop-k.k l c.at.ensures in (
      touched_more d (let_exprs lets) c.loop-k.k l.1 at [] c.loop-k.found c.in_ok-found.found c.loop-k.invariant.0 c.in_ok-found.ensures.touched,
      steps_more d (let_exprs lets) c.loop-k.k l.1 at c.args.steps.now c.loop-k.steps c.touched_in.new.steps c.loop-k.invariant.1 c.in_ok-found.ensures.steps,
      none_more (IsHeavy d c.args.limit) (let_exprs lets) c.loop-k.k l.1 at c.loop-k.invariant.2 c.in_ok-found.ensures.within,
    )

pub touched_in-requires-2-clause-sound : goal.touched_in-requires-2-clause-sound
touched_in-requires-2-clause-sound g c = body_sound (query_of c.args.query.now) c.requires.sound

pub returns-clause-touched : goal.returns-clause-touched
returns-clause-touched g c =
    let d = c.args.doc.now in
    let q = query_of c.args.query.now in
    let past : length q.lets ≤ c.loop-k.k = omega (arith, c.len-k-end.ensures, c.loop-k-test.false) in
    IfOk-weaker c.touched_in-2.result (AddsTouched d q.body c.loop-k.found) (λ (t : List (ℕ × ℕ)). (i : ℕ) → Covers t i ↔ TouchedOf q d i)
    (λ t adds. touched_of d q c.requires.plain c.loop-k.k c.loop-k.found t past c.loop-k.invariant.0 adds) c.touched_in-2.ensures.touched

pub returns-clause-within : goal.returns-clause-within
returns-clause-within g c =
    let past : length (query_of c.args.query.now).lets ≤ c.loop-k.k = omega (arith, c.len-k-end.ensures, c.loop-k-test.false) in
    on_ok_weaker c.touched_in-2.result (none_of (IsHeavy c.args.doc.now c.args.limit) (query_of c.args.query.now) c.loop-k.k past c.loop-k.invariant.2) c.touched_in-2.ensures.within

pub returns-clause-fault : goal.returns-clause-fault
returns-clause-fault g c =
    let d = c.args.doc.now in
    let q = query_of c.args.query.now in
    IfErr-weaker c.touched_in-2.result (HasFullAtom d c.args.limit q.body) (IsFilterFault q d true c.args.limit) (λ f h. full_body d c.args.limit q c.requires.plain f h) c.touched_in-2.ensures.fault

pub returns-clause-steps : goal.returns-clause-steps
returns-clause-steps g c =
    steps_body c.args.doc.now (query_of c.args.query.now) c.loop-k.k c.args.steps.now c.loop-k.steps c.touched_in-2.new.steps c.loop-k.invariant.1 c.touched_in-2.ensures.steps
