use Rattle.std.proofs.Common.{◌↔◌, IsTrue, refl, ap, ◌∙◌, arith}
use Rattle.span_core.proofs.HasLaws.{Has-slice_get}
use Rattle.spanner_model.specs.Expression.{union_all}
use Rattle.spanner_model.specs.ExprView.{expr_of, exprs_of}
use Rattle.spanner_model.proofs.ExprLaws.{part_size, union_size}
use Rattle.spanner_model.proofs.ExprTrees.{expr_of-Join, expr_of-Union}
use Rattle.spanner_model.proofs.Nodes.{expr_nodes}
use Rattle.spanner_engine.specs.Touching.{HasMinusIn}
use Rattle.spanner_engine.proofs.MinusWalk.{minus_none, minus_part, minus_union, none_all, none_more, not_of}
use Rattle.spanner_engine.proofs.differences.+differences.Goals as goal

-- ---- the parts of a union or a join

pub has_minus_among-loop-k-init : goal.has_minus_among-loop-k-init
has_minus_among-loop-k-init t c = λ e h. absurd h

pub has_minus_among-has_minus_in-requires : goal.has_minus_among-has_minus_in-requires
has_minus_among-has_minus_in-requires t c =
    let es = exprs_of c.args.parts.now in
    let e = expr_of c.at.result.now in
    omega (arith, part_size es e (Has-slice_get es c.loop-k.k e c.at.ensures), c.decreases)

pub has_minus_among-returns-then-has_minus_in : goal.has_minus_among-returns-then-has_minus_in
has_minus_among-returns-then-has_minus_in t c =
    let es = exprs_of c.args.parts.now in
    let e = expr_of c.at.result.now in
    (λ b. minus_part es e (Has-slice_get es c.loop-k.k e c.at.ensures) (c.has_minus_in.ensures.0 c.if-has_minus_in.true), λ h. refl)

pub has_minus_among-loop-k-preserved : goal.has_minus_among-loop-k-preserved
has_minus_among-loop-k-preserved t c =
    let es = exprs_of c.args.parts.now in
    let e = expr_of c.at.result.now in
    none_more HasMinusIn es c.loop-k.k e c.at.ensures (not_of c.has_minus_in.result (HasMinusIn e) c.if-has_minus_in.false c.has_minus_in.ensures) c.loop-k.invariant

pub has_minus_among-returns : goal.has_minus_among-returns
has_minus_among-returns t c =
    let es = exprs_of c.args.parts.now in
    let none = minus_none es (none_all HasMinusIn es c.loop-k.k (omega (arith, c.len-k-end.ensures, c.loop-k-test.false)) c.loop-k.invariant) in
    (λ b. absurd (cc), λ h. absurd (none h))

-- ---- unions and joins

pub has_minus_in-has_minus_among-requires : goal.has_minus_in-has_minus_among-requires
has_minus_in-has_minus_among-requires t c =
    let es = exprs_of c.in-Union.parts in
    let is = ap expr_of c.in-Union.is ∙ expr_of-Union c.in-Union.parts in
    let size = ap expr_nodes is ∙ union_size es in
    omega (arith, size, c.decreases)

pub has_minus_in-has_minus_among-requires-in-Join : goal.has_minus_in-has_minus_among-requires-in-Join
has_minus_in-has_minus_among-requires-in-Join t c =
    let is = ap expr_of c.in-Join.is ∙ expr_of-Join c.in-Join.parts in
    let size = ap expr_nodes is in
    omega (arith, size, c.decreases)

pub has_minus_in-returns-in-Union : goal.has_minus_in-returns-in-Union
has_minus_in-returns-in-Union t c =
    let es = exprs_of c.in-Union.parts in
    let is = ap expr_of c.in-Union.is ∙ expr_of-Union c.in-Union.parts in
    let b = c.has_minus_among.result in
    let both = c.has_minus_among.ensures in
    let same = minus_union es in
    let here : IsTrue b ↔ HasMinusIn (union_all es) = (λ h. same.0 (both.0 h), λ h. both.1 (same.1 h)) in
    rw is here
