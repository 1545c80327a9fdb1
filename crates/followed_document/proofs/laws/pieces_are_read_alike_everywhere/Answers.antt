use Rattle.followed_document.proofs.Shifting.{shift_law}
use Rattle.followed_document.proofs.laws.pieces_are_read_alike_everywhere.Goals as goal

pub returns : goal.returns
returns c = shift_law
