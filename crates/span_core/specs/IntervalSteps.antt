-- Where one more interval stands to a list of intervals.
use Rattle.std.specs.Prelude.{ℕ, ◌+◌, ◌-◌, ◌<◌, ◌≤◌, List, length, slice_index_or}
use Rattle.std.specs.List.{AllByRecursion}

-- each interval starts at this position or before
abbrev pub StartUpTo : List (ℕ × ℕ) → ℕ → Type 0
StartUpTo parts at = AllByRecursion (λ part. part.0 ≤ at) parts

-- each interval ends before this position, with at least one between
abbrev pub EndBefore : List (ℕ × ℕ) → ℕ → Type 0
EndBefore parts at = AllByRecursion (λ part. part.1 + 1 < at) parts

-- there is a last interval, and no position between it and this one
abbrev pub JoinsLast : List (ℕ × ℕ) → ℕ → Type 0
JoinsLast parts at = (0 < length parts) × ((d : ℕ × ℕ) → at ≤ (slice_index_or parts (length parts - 1) d).1 + 1)

-- the interval at a place, if there is one, starts at this position or after
abbrev pub StartsAtOrAfter : List (ℕ × ℕ) → ℕ → ℕ → Type 0
StartsAtOrAfter parts k at = k < length parts → at ≤ (slice_index_or parts k (0, 0)).0
