use Rattle.std.proofs.Common.{sym, ◌∙◌, ◌+◌, ◌*◌, drop, ap, arith}
use Rattle.formula_parser.specs.CharView.{scalar_of}
use Rattle.formula_parser.proofs.CharSetLaws.{too_large}
use Rattle.formula_parser.proofs.CharTurns.{hex_step}
use Rattle.formula_parser.proofs.characters.hex_character.Goals as goal

pub returns-then-value-ge1114112 : goal.returns-then-value-ge1114112
returns-then-value-ge1114112 c =
    let l = c.loop-digit in
    sym (l.invariant.same ∙ ap scalar_of (hex_step l.value l.digit-index c.args.digits.now c.in-Some.next c.loop-digit-test.true c.in-Some.ensures.value)
    ∙ too_large (16 * l.value + c.in-Some.next) (drop (l.digit-index + 1) c.args.digits.now) (omega (arith, c.if-value-ge1114112.true)))
