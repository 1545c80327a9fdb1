use Rattle.followed_document.proofs.Steps.{step_law}
use Rattle.followed_document.proofs.laws.an_append_takes_the_pieces_on.Goals as goal

pub returns : goal.returns
returns c = step_law
