use Rattle.std.proofs.Common.{◌≡◌, Some, sym, ◌∙◌, ap}
use Rattle.formula_parser.specs.Tokens.{escape_at}
use Rattle.formula_parser.specs.View.{elem_of, escape_of}
use Rattle.formula_parser.proofs.ClassSets.{escape_bytes}
use Rattle.formula_parser.proofs.EscapeLaws.{escape_is}
use Rattle.formula_parser.proofs.characters.narrow.Goals as goal

pub narrow_elem-requires : goal.narrow_elem-requires
narrow_elem-requires c =
    let is : escape_at c.args.text.now ≡ Some (elem_of c.in-Some.elem, c.in-Some.len) = sym c.escape_at.ensures ∙ ap escape_of c.in-Some.is in
    escape_bytes (escape_is c.args.text.now (elem_of c.in-Some.elem, c.in-Some.len) is).is
