use Rattle.unicode_classes.proofs.DigitLaws.{has_digits}
use Rattle.unicode_classes.proofs.laws.a_text_has_its_digits.Goals as goal

pub returns : goal.returns
returns c = has_digits c.args.c
