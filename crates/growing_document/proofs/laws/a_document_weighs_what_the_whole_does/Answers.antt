use Rattle.growing_document.proofs.Wholes.{whole_weighs}
use Rattle.growing_document.proofs.laws.a_document_weighs_what_the_whole_does.Goals as goal

pub returns : goal.returns
returns c = whole_weighs
