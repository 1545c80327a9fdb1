use Rattle.std.proofs.Common.{◌≡◌, ◌-◌, ◌*◌, ◌/◌, ◌^◌, None, refl, sym, ap, ◌∙◌, w64, arith}
use Rattle.std.specs.Int.{trailing_zeros}
use Rattle.span_core.specs.Block.{closing_bit}
use Rattle.enumerator.proofs.Ending.{any_default}
use Rattle.enumerator.proofs.ends.open_end.Goals as goal

pub returns-in-Some : goal.returns-in-Some
returns-in-Some c =
    let h = trailing_zeros w64 c.number.result / 2 in
    let bit_is : closing_bit c.args.v (c.args.v - 1 - h) ≡ 2 * h = omega arith in
    record {
      inside = omega arith;
      alone = sym c.number-2.ensures ∙ c.if-number.false ∙ c.number-3.ensures ∙ c.closing.ensures ∙ ap (λ n. 2 ^ n) bit_is;
      span = c.in-Some.span;
      there = any_default c.args.spans.now (c.args.v - 1 - h) None _ (omega arith) ∙ c.in-Some.is;
      starts = refl;
    }
