-- Texts that are put together.
use Rattle.std.specs.Prelude.{◌≡◌, ℕ, ◌+◌, ◌/◌, ◌%◌, ◌^◌, zero, suc, ◌⊎◌, List, [], ◌∷◌, ◌++◌, IsTrue}
use Rattle.std.specs.Ordering.{nat_cmp}
use Rattle.std.specs.FinSet.{FinSet, contains}
use Rattle.span_core.specs.Intervals.{Covers}

-- the one byte is in the set
abbrev pub IsByteOf : FinSet nat_cmp → List ℕ → Type 0
IsByteOf set w = (b : ℕ) × IsTrue (contains set b) × (b ∷ [] ≡ w)

-- a text of the first kind, and then one of the second
abbrev pub AreJoined : (List ℕ → Type 0) → (List ℕ → Type 0) → List ℕ → Type 0
AreJoined First Second w = (u : List ℕ) × (v : List ℕ) × First u × Second v × (u ++ v ≡ w)

-- a text of either kind
abbrev pub IsEither : (List ℕ → Type 0) → (List ℕ → Type 0) → List ℕ → Type 0
IsEither First Second w = First w ⊎ Second w

-- so many continuation bytes after a first byte, which is a base and the number's highest digit to the base 64
abbrev pub digits : ℕ → ℕ → ℕ → List ℕ
digits base zero v = (base + v) ∷ []
digits base (suc tails) v = (base + v / 64 ^ suc tails) ∷ digits 128 tails (v % 64 ^ suc tails)

-- the text of a number in the ranges
abbrev pub IsBlockText : ℕ → ℕ → List (ℕ × ℕ) → List ℕ → Type 0
IsBlockText base tails ranges w = (v : ℕ) × Covers ranges v × (digits base tails v ≡ w)
