-- Counts of faults that grow.
use Rattle.std.proofs.Common.{◌≤◌, ℕ, arith}
use Rattle.rm_outside.specs.Faults.{Rose}

pub rose_from : (a b c : ℕ) → a ≤ b → Rose b c → Rose a c
rose_from a b c le rose = omega (arith, le, rose)
