use Rattle.std.proofs.Common.{length, ap, refl}
use Rattle.unicode_classes.specs.Properties.{IsProperty}
use Rattle.formula_parser.specs.Escapes.{kind}
use Rattle.formula_parser.specs.Dialect.{property_elem}
use Rattle.formula_parser.proofs.CharSetLaws.{property_is}
use Rattle.formula_parser.proofs.characters.property_named.Goals as goal

pub returns-in-Ok-Some : goal.returns-in-Ok-Some
returns-in-Ok-Some c =
    let is : IsProperty c.args.name.now c.in-Ok-Some.set = rw c.in-Ok-Some.field-0-is at c.in-Ok-Some.ensures in
    let p = property_is c.args.name.now c.in-Ok-Some.set is in
    (kind p.0, (p.0, refl, p.2), ap (property_elem c.args.at (length c.args.name.now)) p.1)
