-- Counts of faults, which stay at the last number of 64 bits once they come to it.
use Rattle.std.specs.Prelude.{ℕ, ◌+◌, ◌-◌, ◌^◌, ◌≤◌, min}

-- one more, as far as a count goes
abbrev pub counted : ℕ → ℕ
counted count = min (count + 1) (2 ^ 64 - 1)

-- a count is greater than before, or stands at its last number
abbrev pub Rose : ℕ → ℕ → Type 0
Rose before now = counted before ≤ now
