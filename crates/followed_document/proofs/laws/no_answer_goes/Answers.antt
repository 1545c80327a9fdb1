use Rattle.followed_document.proofs.Going.{nothing_goes}
use Rattle.followed_document.proofs.laws.no_answer_goes.Goals as goal

pub returns : goal.returns
returns c = nothing_goes
