use Rattle.std.proofs.Common.{◌≡◌, arith}
use Rattle.formula_parser.specs.Escapes.{byte}
use Rattle.formula_parser.specs.CharView.{IsElemOf}
use Rattle.formula_parser.proofs.CharTurns.{range_added}
use Rattle.formula_parser.proofs.char_class.with_range.Goals as goal

pub returns : goal.returns
returns c = λ s x y at len holds first elem.
    let low : y ≡ byte c.in-One-One.low = rw c.in-One-One.is-0 at first in
    let high : x ≡ byte c.in-One-One.high = rw c.in-One-One.is-1 at elem in
    range_added c.add.new.self c.args.items s c.in-One-One.low c.in-One-One.high c.args.place at len x y low high (omega (arith, c.if-low-high.false)) holds c.in_ok-add.ensures.ok
