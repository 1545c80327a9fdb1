use Rattle.followed_document.proofs.Pieces.{piece_law}
use Rattle.followed_document.proofs.laws.a_piece_is_followed_from_any_base.Goals as goal

pub returns : goal.returns
returns c = piece_law
