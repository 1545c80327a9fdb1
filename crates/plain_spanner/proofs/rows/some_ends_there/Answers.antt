use Rattle.std.proofs.Common.{◌≡◌, ℕ, List, length, get_or, take, inl, inr, ap, refl, sym, ◌∙◌, arith}
use Rattle.std.proofs.Math.Seq.{take-length}
use Rattle.std.proofs.lemmas.Bool.{false≢true}
use Rattle.span_core.specs.Lists.{Has}
use Rattle.span_core.proofs.HasLaws.{Has-get_or, Has-take_more_cases}
use Rattle.plain_spanner.proofs.rows.some_ends_there.Goals.{then-not-to_end-via-then-not-to_end, then-not-to_end-via-else-not-to_end+then-known-end}
use Rattle.plain_spanner.proofs.rows.some_ends_there.Goals as goal

pub returns-then-not-to_end : goal.returns-then-not-to_end
returns-then-not-to_end c =
    let j = get_or c.args.ends.now c.loop-known.known-index 0 in
    let here = Has-get_or c.args.ends.now c.loop-known.known-index 0 c.loop-known-test.true in
    elim c.then-not-to_end.branch [
      | then-not-to_end-via-then-not-to_end w ↦ (λ _. (j, here, λ t. absurd (false≢true (sym w.if-not-to_end.true ∙ t))), λ _. refl)
      | then-not-to_end-via-else-not-to_end+then-known-end w ↦ (λ _. (j, here, λ t. w.if-known-end.true), λ _. refl)
    ]

pub loop-known-preserved : goal.loop-known-preserved
loop-known-preserved c = λ j h so.
    elim (Has-take_more_cases c.args.ends.now c.loop-known.known-index 0 j c.loop-known-test.true h) [
      | inl a ↦ c.loop-known.invariant j a so
      | inr e ↦ c.if-known-end.false (e ∙ so c.if-not-to_end.false)
    ]

pub returns : goal.returns
returns c =
    let e : c.loop-known.known-index ≡ length c.args.ends.now = omega arith in
    let whole = ap (λ n. take n c.args.ends.now) e ∙ take-length c.args.ends.now in
    (λ t. absurd (false≢true t), λ w. absurd (c.loop-known.invariant w.0 (rw whole w.1) w.2))
