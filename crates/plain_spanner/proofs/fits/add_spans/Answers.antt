use Rattle.std.proofs.Common.{◌≡◌, ℕ, List, [], ◌∷◌, ◌++◌, ◌⊎◌, get_or, ap, ◌∙◌, refl, arith}
use Rattle.span_core.specs.Lists.{Has}
use Rattle.spanner_model.specs.Captures.{Captures}
use Rattle.span_core.proofs.HasLaws.{Has-get_or}
use Rattle.plain_spanner.specs.Listed.{Tells, FromSome, CapturesAndEnds, HasFit, CapturedTo}
use Rattle.plain_spanner.proofs.TellsLaws.{from_none, from_more, from_all}
use Rattle.plain_spanner.proofs.FitLists.{fits_appended, spanned}
use Rattle.plain_spanner.proofs.fits.add_spans.Goals as goal

pub overflow_cast-place : goal.overflow_cast-place
overflow_cast-place c =
    let ends = c.ends-ends.result.now in
    let here = Has-get_or ends c.loop-end.end-index 0 c.loop-end-test.true in
    let r = c.requires (get_or ends c.loop-end.end-index 0) (rw (← c.ends-ends.ensures) here) in
    let lo = r.0 in
    let hi = r.1 in
    omega arith

pub overflow_cast-end : goal.overflow_cast-end
overflow_cast-end c =
    let ends = c.ends-ends.result.now in
    let here = Has-get_or ends c.loop-end.end-index 0 c.loop-end-test.true in
    let r = c.requires (get_or ends c.loop-end.end-index 0) (rw (← c.ends-ends.ensures) here) in
    let lo = r.0 in
    let hi = r.1 in
    omega arith

pub new-span-requires : goal.new-span-requires
new-span-requires c =
    let ends = c.ends-ends.result.now in
    let here = Has-get_or ends c.loop-end.end-index 0 c.loop-end-test.true in
    let r = c.requires (get_or ends c.loop-end.end-index 0) (rw (← c.ends-ends.ensures) here) in
    let lo = r.0 in
    let hi = r.1 in
    omega arith

pub loop-end-init : goal.loop-end-init
loop-end-init c = from_none (CapturedTo c.args.name.now c.args.place c.args.captures.now c.args.inner.now.0) (HasFit c.args.all.now.items)

pub loop-end-preserved : goal.loop-end-preserved
loop-end-preserved c =
    let x = c.args.name.now in
    let i = c.args.place in
    let m0 = c.args.captures.now in
    let m1 = c.args.inner.now.0 in
    let ends = c.ends-ends.result.now in
    let j = get_or ends c.loop-end.end-index 0 in
    let s = c.new-span.result in
    let old = c.loop-end.all.items in
    let new = c.push.new.self.items in
    let b : CapturesAndEnds = (m0 ++ (x, s) ∷ m1, j ∷ []) in
    let is : new ≡ old ++ b ∷ [] = c.in_ok-push.ensures.items ∙
    ap (λ (e : CapturesAndEnds). old ++ e ∷ []) (c.in_ok-spanning.ensures ∙ ap (λ (m : Captures). let e : CapturesAndEnds = (m0 ++ (x, s) ∷ m, j ∷ []) in e) c.captures-2.ensures) in
    from_more (CapturedTo x i m0 m1) (HasFit c.args.all.now.items) (HasFit old) (HasFit new) ends c.loop-end.end-index j 0 c.loop-end-test.true refl c.loop-end.invariant
    (fits_appended old (b ∷ []) new (CapturedTo x i m0 m1 j) is (spanned x i j m0 m1 s c.new-span.ensures.start c.new-span.ensures.end))

pub returns : goal.returns
returns c =
    let R = CapturedTo c.args.name.now c.args.place c.args.captures.now c.args.inner.now.0 in
    let all = from_all R (HasFit c.args.all.now.items) (HasFit c.loop-end.all.items) c.ends-ends.result.now c.loop-end.end-index
    c.loop-end.auto.end-index-end c.loop-end-test.false c.loop-end.invariant in
    rw (← c.ends-ends.ensures) all
