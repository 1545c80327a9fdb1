-- Runs of bytes of a set, and what ends them.
use Rattle.std.specs.Prelude.{◌≡◌, ℕ, ◌<◌, ◌&&◌, Bool, false, not, nat_lt, List, slice_index_or}
use Rattle.std.specs.Ordering.{nat_cmp}
use Rattle.std.specs.FinSet.{FinSet, contains}
use Rattle.memchr.specs.Find.{is_byte, is_byte2, is_byte3}
use Rattle.byte_runs.specs.declared.skipper.Leaving.{Leaving}
use Rattle.byte_runs.specs.declared.skipper.Leaving.TheVariants.{None, One, Two, Three, Many}

-- the test that a byte is not in the set
abbrev pub is_outside : FinSet nat_cmp → ℕ → Bool
is_outside set b = not (contains set b)

-- the bytes that pass the test are exactly those below an end that are not in the set
abbrev pub IsTestBelow : ℕ → FinSet nat_cmp → (ℕ → Bool) → Type 0
IsTestBelow end set test = (b : ℕ) → test b ≡ (nat_lt b end && is_outside set b)

-- these are the bytes below an end that are not in the set; of many nothing is said
abbrev pub AreOutsideBelow : ℕ → FinSet nat_cmp → Leaving → Type 0
AreOutsideBelow end set None = IsTestBelow end set (λ b. false)
AreOutsideBelow end set (One x) = IsTestBelow end set (is_byte x)
AreOutsideBelow end set (Two x y) = IsTestBelow end set (is_byte2 x y)
AreOutsideBelow end set (Three x y z) = IsTestBelow end set (is_byte3 x y z)
AreOutsideBelow end set Many = Unit {0}

-- these are the bytes that are not in the set
abbrev pub AreLeaving : FinSet nat_cmp → Leaving → Type 0
AreLeaving set leaving = AreOutsideBelow 256 set leaving

-- the sets have the same bytes
abbrev pub HaveSameBytes : FinSet nat_cmp → FinSet nat_cmp → Type 0
HaveSameBytes s t = (b : ℕ) → b < 256 → contains s b ≡ contains t b

-- whether a byte is marked in a table of all bytes
abbrev pub is_marked : List Bool → ℕ → Bool
is_marked marks b = slice_index_or marks b false

-- the bytes that are marked are those that are not in the set
abbrev pub AreMarked : FinSet nat_cmp → List Bool → Type 0
AreMarked set marks = (b : ℕ) → b < 256 → is_marked marks b ≡ is_outside set b
