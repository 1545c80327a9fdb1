use Rattle.formula_parser.proofs.SignLaws.{keeps_bytes}
use Rattle.formula_parser.proofs.laws.texts_without_the_sign_stay.Goals as goal

pub returns : goal.returns
returns c = keeps_bytes
