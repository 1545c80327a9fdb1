-- A piece is read, and its layer is settled.
use Rattle.std.specs.Prelude.{◌≡◌, ℕ, ◌+◌, List, length}
use Rattle.output_graph.specs.Listed.{Lists}
use Rattle.one_pass.specs.Places.{bytes_at}
use Rattle.one_pass.specs.Readings.{HasReadOn}
use Rattle.one_pass.specs.SoFar.{SoFar}
use Rattle.one_pass.specs.Settling.{HasSettled, Rule}

-- a piece was read, and then the words of the sets of the rule were given
pub record HasReadPiece (G : Rule) (r : SoFar) (n : ℕ) (piece : List ℕ) (s : SoFar) (lists : Lists) (m : ℕ) : Type 0 where
  pub middle : SoFar
  pub between : ℕ
  pub read : HasReadOn (bytes_at r.at piece) r n middle between
  pub at : middle.at ≡ r.at + length piece
  pub settled : HasSettled G middle between s lists m
