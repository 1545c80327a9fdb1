use Rattle.followed_document.proofs.Following.{followed_law}
use Rattle.followed_document.proofs.laws.each_word_is_given_once.Goals as goal

pub returns : goal.returns
returns c = followed_law
