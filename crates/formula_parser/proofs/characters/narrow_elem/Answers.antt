use Rattle.std.proofs.Common.{refl}
use Rattle.formula_parser.specs.Escapes.{kind}
use Rattle.formula_parser.proofs.characters.narrow_elem.Goals as goal

pub returns-in_ok-of_bytes-in-Kind : goal.returns-in_ok-of_bytes-in-Kind
returns-in_ok-of_bytes-in-Kind c =
    let small = rw c.in-Kind.is at c.requires in
    rw c.in-Kind.is (kind c.in-Kind.bytes, (c.in-Kind.bytes, refl, c.in_ok-of_bytes-in-Kind.ensures small), refl)
