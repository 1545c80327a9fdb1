-- Chains of byte sets, and places from which bytes keep to them.
use Rattle.std.specs.Prelude.{◌≡◌, ℕ, ◌+◌, ◌<◌, ◌≤◌, Bool, false, List, [], length, slice_index, slice_index_or, IsTrue}
use Rattle.std.specs.Ordering.{nat_cmp}
use Rattle.std.specs.FinSet as bytes

-- the byte is in the set of this number; in none behind the last
abbrev pub IsInSet : List (bytes.FinSet nat_cmp) → ℕ → ℕ → Type 0
IsInSet sets k b = IsTrue (bytes.contains (slice_index_or sets k bytes.empty) b)

-- the bytes from the place j on, up to the place q, are in the sets in turn, as far as both go
abbrev pub KeepTo : List (bytes.FinSet nat_cmp) → List ℕ → ℕ → ℕ → Type 0
KeepTo sets d j q = (k : ℕ) → k < length sets → j + k < q → IsInSet sets k (slice_index d (j + k))

-- from no place before q do the bytes up to q keep to the sets
abbrev pub AreLeftBy : List (bytes.FinSet nat_cmp) → List ℕ → ℕ → Type 0
AreLeftBy sets d q = (j : ℕ) → j < q → ¬ KeepTo sets d j q

-- the text has a byte; each of its bytes is the only one of its set, the first of the set of this number
pub record IsTextOf (sets : List (bytes.FinSet nat_cmp)) (offset : ℕ) (text : List ℕ) : Type 0 where
  pub some : 0 < length text
  pub within : offset + length text ≤ length sets
  pub only : (m b : ℕ) → m < length text → b < 256 → IsInSet sets (offset + m) b → b ≡ slice_index text m

-- of each byte it tells whether it is in the set
abbrev pub IsLevelOf : bytes.FinSet nat_cmp → List Bool → Type 0
IsLevelOf set level = (b : ℕ) → b < 256 → slice_index_or level b false ≡ bytes.contains set b

-- for each set
pub record AreLevelsOf (sets : List (bytes.FinSet nat_cmp)) (levels : List (List Bool)) : Type 0 where
  pub count : length levels ≡ length sets
  pub each : (k : ℕ) → k < length sets → IsLevelOf (slice_index_or sets k bytes.empty) (slice_index_or levels k [])
