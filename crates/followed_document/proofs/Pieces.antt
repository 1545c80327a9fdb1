-- A piece more, read from a base.
use Rattle.followed_document.specs.PieceLaws.{PieceLaw}
use Rattle.followed_document.proofs.Accepting.{next_row}
use Rattle.followed_document.proofs.Behind.{behind_piece, given_there}

pub piece_law : PieceLaw
piece_law g ps r s piece n m lists accepts flags b is same stands bytes x = record {
  behind = behind_piece g flags r is same stands piece n s lists m x ps b bytes;
  given = given_there g flags r is same stands piece n s lists m x ps b;
  of_rows = λ u h. next_row g flags ps b.bytes accepts piece g.base u bytes ((given_there g flags r is same stands piece n s lists m x ps b u).0 h);
}
