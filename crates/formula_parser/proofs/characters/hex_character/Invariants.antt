use Rattle.std.proofs.Common.{◌≡◌, ◌<◌, drop}
use Rattle.formula_parser.specs.CharEscapes.{hex_after}
use Rattle.formula_parser.specs.CharView.{scalar_of}
use Rattle.formula_parser.proofs.characters.hex_character.Given as goal

abbrev pub invariant-loop-digit : goal.invariant-loop-digit
invariant-loop-digit l = record {
  small : l.value < 0x11_0000;
  same : scalar_of (hex_after 0 l.digits) ≡ scalar_of (hex_after l.value (drop l.digit-index l.digits));
}
