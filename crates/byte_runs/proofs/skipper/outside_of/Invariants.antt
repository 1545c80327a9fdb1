use Rattle.std.proofs.Common.{◌≡◌, ℕ, ◌<◌, length}
use Rattle.byte_runs.specs.Runs.{is_marked, is_outside}
use Rattle.byte_runs.proofs.skipper.outside_of.Given as goal

abbrev pub invariant-loop-byte : goal.invariant-loop-byte
invariant-loop-byte l = (length l.outside ≡ 256) × ((b : ℕ) → b < l.byte → is_marked l.outside b ≡ is_outside l.set b)
