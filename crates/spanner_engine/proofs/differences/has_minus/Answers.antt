use Rattle.std.proofs.Common.{refl, arith, inl}
use Rattle.span_core.proofs.HasLaws.{Has-slice_get}
use Rattle.spanner_model.specs.Captures.{VarName}
use Rattle.spanner_model.specs.Expression.{ExprTree}
use Rattle.spanner_model.specs.ExprView.{expr_of, query_of}
use Rattle.spanner_engine.specs.Touching.{HasMinusIn}
use Rattle.spanner_engine.proofs.MinusWalk.{minus_body, none_all, none_more, not_of}
use Rattle.spanner_engine.proofs.differences.has_minus.Goals as goal

pub loop-k-init : goal.loop-k-init
loop-k-init c = λ m h. absurd h

pub returns-then-has_minus_in : goal.returns-then-has_minus_in
returns-then-has_minus_in c =
    let q = query_of c.args.query.now in
    let l : VarName × ExprTree = (c.at.result.now.0, expr_of c.at.result.now.1) in
    (λ t. inl (l, Has-slice_get q.lets c.loop-k.k l c.at.ensures, c.has_minus_in.ensures.0 c.if-has_minus_in.true), λ h. refl)

pub loop-k-preserved : goal.loop-k-preserved
loop-k-preserved c =
    let q = query_of c.args.query.now in
    let l : VarName × ExprTree = (c.at.result.now.0, expr_of c.at.result.now.1) in
    none_more (λ (m : VarName × ExprTree). HasMinusIn m.1) q.lets c.loop-k.k l c.at.ensures
    (not_of c.has_minus_in.result (HasMinusIn l.1) c.if-has_minus_in.false c.has_minus_in.ensures) c.loop-k.invariant

pub returns : goal.returns
returns c =
    let q = query_of c.args.query.now in
    minus_body q c.has_minus_in-2.result
    (none_all (λ (m : VarName × ExprTree). HasMinusIn m.1) q.lets c.loop-k.k (omega (arith, c.len-k-end.ensures, c.loop-k-test.false)) c.loop-k.invariant) c.has_minus_in-2.ensures
