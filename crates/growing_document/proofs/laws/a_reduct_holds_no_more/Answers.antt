use Rattle.growing_document.proofs.Lengths.{reduct_weighs}
use Rattle.growing_document.proofs.laws.a_reduct_holds_no_more.Goals as goal

pub returns : goal.returns
returns c = reduct_weighs
