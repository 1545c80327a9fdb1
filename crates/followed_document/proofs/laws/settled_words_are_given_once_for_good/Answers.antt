use Rattle.followed_document.proofs.Lasting.{settled_law}
use Rattle.followed_document.proofs.laws.settled_words_are_given_once_for_good.Goals as goal

pub returns : goal.returns
returns c = settled_law
