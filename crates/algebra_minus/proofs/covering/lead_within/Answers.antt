use Rattle.std.proofs.Common.{◌≡◌, length, take, ap, ◌∙◌, arith}
use Rattle.std.proofs.Math.Seq.{take-length}
use Rattle.std.proofs.lemmas.Bool.{OnTrue_at}
use Rattle.algebra_minus.proofs.CoveringLaws.{within_more}
use Rattle.algebra_minus.proofs.covering.lead_within.Goals as goal

pub loop-way-preserved : goal.loop-way-preserved
loop-way-preserved c =
    within_more c.args.row.now c.args.ways.now c.loop-way.way-index c.way-item.result c.loop-way-test.true c.way-item.is c.loop-way.invariant
    (OnTrue_at c.if-not-is_led.false c.is_led.ensures)

pub returns : goal.returns
returns c =
    let row = c.args.row.now in
    let at : c.loop-way.way-index ≡ length row = omega (arith, c.loop-way-test.false, c.loop-way.auto.way-index-end) in
    rw (← (ap (λ k. take k row) at ∙ take-length row)) c.loop-way.invariant
