-- Where the cell of a number lies: the five lowest bits tell the chunk, the others the place there.
use Rattle.std.specs.Prelude.{◌≡◌, ℕ, ◌/◌, ◌%◌, ◌<◌, ◌≤◌, List, [], length, get_or, slice_set}
use denote.RawPtr.{Ptr}
use Rattle.raw_cells.specs.Spots.{Spot, Bare, Link, Full}

module _ {X : Type 0} where
  -- what lies in the cell of the number n
  abbrev pub cell : List (List (Spot X)) → ℕ → Spot X
  cell rows n = get_or (get_or rows (n % 32) []) (n / 32) Bare

  -- it is one of the cells
  abbrev pub IsWithin : List (List (Spot X)) → ℕ → Type 0
  IsWithin rows n = n / 32 < length (get_or rows (n % 32) [])

  -- another content of the cell of the number n
  abbrev pub with_cell : List (List (Spot X)) → ℕ → Spot X → List (List (Spot X))
  with_cell rows n v = slice_set rows (n % 32) (slice_set (get_or rows (n % 32) []) (n / 32) v)

  abbrev pub HasFull : List (List (Spot X)) → ℕ → Type 0
  HasFull rows n = (x : X) × (cell rows n ≡ Full x)

  abbrev pub HasLink : List (List (Spot X)) → ℕ → Type 0
  HasLink rows n = (k : ℕ) × (cell rows n ≡ Link k)

-- the table, of so many places, has the beginning of each chunk
pub record AreTold {X : Type 0} (places : ℕ) (first : ℕ → Ptr) (chunks : List (Ptr × List (Spot X))) : Type 0 where
  pub all : places ≡ 32
  pub few : length chunks ≤ 32
  pub told : (k : ℕ) (d : Ptr × List (Spot X)) → k < length chunks → first k ≡ (get_or chunks k d).0
