use Rattle.std.proofs.Common.{ap, ◌∙◌, subst, arith}
use Rattle.std.proofs.lemmas.Result.{IfOk-weaker, on_ok_weaker, IfErr-weaker}
use Rattle.span_core.proofs.HasLaws.{Has-slice_get}
use Rattle.spanner_model.specs.Expression.{join_all, union_all}
use Rattle.spanner_model.specs.ExprView.{expr_of, exprs_of}
use Rattle.spanner_model.proofs.ExprLaws.{part_size, union_size}
use Rattle.spanner_model.proofs.ExprTrees.{expr_of-Join, expr_of-Union}
use Rattle.spanner_model.proofs.Nodes.{expr_nodes}
use Rattle.spanner_engine.specs.Filtering.{AddsTouched, HasFullAtom, IsHeavy, IsInSound, steps_in}
use Rattle.spanner_engine.proofs.AtomWalk.{full_part, full_union, join_sound, none_all, none_more, none_union, steps_first, steps_more, steps_part, steps_union, touched_all, touched_more, touched_none, touched_union, union_sound}
use Rattle.spanner_engine.proofs.Results.{handed_on}
use Rattle.spanner_engine.proofs.positions.+touching.Goals as goal

-- ---- the parts of a union or a join

pub touched_among-loop-k-init : goal.touched_among-loop-k-init
touched_among-loop-k-init g t c = (touched_none c.args.doc.now (exprs_of c.args.parts.now) c.args.before, omega arith, λ h. h)

pub touched_among-touched_in-requires : goal.touched_among-touched_in-requires
touched_among-touched_in-requires g t c κs within =
    let es = exprs_of c.args.parts.now in
    let e = expr_of c.at.result.now in
    let has = Has-slice_get es c.loop-k.k e c.at.ensures in
    (omega (arith, part_size es e has, c.decreases), (within, (c.requires.sound e has, (c.requires.few, c.requires.limit))))

pub touched_among-returns-in_err-found-clause-fault : goal.touched_among-returns-in_err-found-clause-fault
touched_among-returns-in_err-found-clause-fault g t c =
    let d = c.args.doc.now in
    let es = exprs_of c.args.parts.now in
    let fault = c.in_err-found.field-0.0 in
    handed_on (HasFullAtom d c.args.limit (join_all es)) c.from_residual.result fault c.from_residual.ensures.1
    (full_part d c.args.limit es c.loop-k.k (expr_of c.at.result.now) c.at.ensures fault c.in_err-found.ensures.fault)

pub touched_among-returns-in_err-found-clause-steps : goal.touched_among-returns-in_err-found-clause-steps
touched_among-returns-in_err-found-clause-steps g t c =
    steps_part c.args.doc.now (exprs_of c.args.parts.now) c.loop-k.k (expr_of c.at.result.now) c.at.ensures c.args.steps.now c.loop-k.steps
    c.touched_in.new.steps c.loop-k.invariant.1 c.in_err-found.ensures.steps

pub touched_among-loop-k-preserved : goal.touched_among-loop-k-preserved
touched_among-loop-k-preserved g t c =
    let d = c.args.doc.now in
    let es = exprs_of c.args.parts.now in
    let e = expr_of c.at.result.now in (
      touched_more d es c.loop-k.k e c.at.ensures c.args.before c.loop-k.found c.in_ok-found.found c.loop-k.invariant.0 c.in_ok-found.ensures.touched,
      steps_more d es c.loop-k.k e c.at.ensures c.args.steps.now c.loop-k.steps c.touched_in.new.steps c.loop-k.invariant.1 c.in_ok-found.ensures.steps,
      none_more (IsHeavy d c.args.limit) es c.loop-k.k e c.at.ensures c.loop-k.invariant.2 c.in_ok-found.ensures.within,
    )

pub touched_among-returns-clause-touched : goal.touched_among-returns-clause-touched
touched_among-returns-clause-touched g t c =
    touched_all c.args.doc.now (exprs_of c.args.parts.now) c.loop-k.k c.args.before c.loop-k.found (omega (arith, c.len-k-end.ensures, c.loop-k-test.false)) c.loop-k.invariant.0

pub touched_among-returns-clause-steps : goal.touched_among-returns-clause-steps
touched_among-returns-clause-steps g t c =
    steps_first c.args.doc.now (exprs_of c.args.parts.now) c.loop-k.k c.args.steps.now c.loop-k.steps c.loop-k.invariant.1

pub touched_among-returns-clause-within : goal.touched_among-returns-clause-within
touched_among-returns-clause-within g t c =
    none_all (IsHeavy c.args.doc.now c.args.limit) (exprs_of c.args.parts.now) c.loop-k.k (omega (arith, c.len-k-end.ensures, c.loop-k-test.false)) c.loop-k.invariant.2

-- ---- unions and joins

pub touched_in-touched_among-requires : goal.touched_in-touched_among-requires
touched_in-touched_among-requires g t c κs within =
    let es = exprs_of c.in-Union.parts in
    let is = ap expr_of c.in-Union.is ∙ expr_of-Union c.in-Union.parts in
    let size = ap expr_nodes is ∙ union_size es in
    (omega (arith, size, c.decreases), (within, (union_sound es (subst IsInSound is c.requires.sound), (c.requires.few, c.requires.limit))))

pub touched_in-touched_among-requires-in-Join : goal.touched_in-touched_among-requires-in-Join
touched_in-touched_among-requires-in-Join g t c κs within =
    let es = exprs_of c.in-Join.parts in
    let is = ap expr_of c.in-Join.is ∙ expr_of-Join c.in-Join.parts in
    let size = ap expr_nodes is in
    (omega (arith, size, c.decreases), (within, (join_sound es (subst IsInSound is c.requires.sound), (c.requires.few, c.requires.limit))))

pub touched_in-returns-in-Union-clause-touched : goal.touched_in-returns-in-Union-clause-touched
touched_in-returns-in-Union-clause-touched g t c =
    let d = c.args.doc.now in
    let es = exprs_of c.in-Union.parts in
    let is = ap expr_of c.in-Union.is ∙ expr_of-Union c.in-Union.parts in
    let r = c.touched_among.result in
    rw is
    (IfOk-weaker r (AddsTouched d (join_all es) c.args.before) (AddsTouched d (union_all es) c.args.before) (touched_union d es c.args.before) c.touched_among.ensures.touched)

pub touched_in-returns-in-Union-clause-within : goal.touched_in-returns-in-Union-clause-within
touched_in-returns-in-Union-clause-within g t c =
    let P = IsHeavy c.args.doc.now c.args.limit in
    let es = exprs_of c.in-Union.parts in
    let is = ap expr_of c.in-Union.is ∙ expr_of-Union c.in-Union.parts in
    let r = c.touched_among.result in
    rw is (on_ok_weaker r (none_union P es) c.touched_among.ensures.within)

pub touched_in-returns-in-Union-clause-fault : goal.touched_in-returns-in-Union-clause-fault
touched_in-returns-in-Union-clause-fault g t c =
    let d = c.args.doc.now in
    let es = exprs_of c.in-Union.parts in
    let is = ap expr_of c.in-Union.is ∙ expr_of-Union c.in-Union.parts in
    let r = c.touched_among.result in
    rw is
    (IfErr-weaker r (HasFullAtom d c.args.limit (join_all es)) (HasFullAtom d c.args.limit (union_all es)) (full_union d c.args.limit es) c.touched_among.ensures.fault)

pub touched_in-returns-in-Union-clause-steps : goal.touched_in-returns-in-Union-clause-steps
touched_in-returns-in-Union-clause-steps g t c =
    let d = c.args.doc.now in
    let es = exprs_of c.in-Union.parts in
    let is = ap expr_of c.in-Union.is ∙ expr_of-Union c.in-Union.parts in
    omega (arith, c.touched_among.ensures.steps, ap (steps_in d) is, steps_union d es)
