-- What one read appends.
use Rattle.std.specs.Prelude.{◌≡◌, ◌≤◌, ℕ, List, ◌++◌, length, Option}
use Rattle.std.specs.Io.KnownBytes.{Consumes, IsAtEnd}

-- so many bytes, at most `most`, were taken from the known ones and added to the old ones; none only at the end
pub record ReadsOn (most : ℕ) (start now : Option (List ℕ)) (old new : List ℕ) (count : ℕ) : Type 0 where
  pub bytes : List ℕ
  pub appended : new ≡ old ++ bytes
  pub counted : length bytes ≡ count
  pub few : count ≤ most
  pub consumed : Consumes start now bytes
  pub ended : count ≡ 0 → IsAtEnd now
