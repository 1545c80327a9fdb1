use Rattle.followed_document.proofs.FullWords as proofs
use Rattle.followed_document.proofs.laws.full_words_end.Goals as goal

pub returns : goal.returns
returns c = proofs.full_words_end
