use Rattle.std.proofs.Common.{ℕ, ◌≤◌, ◌<◌, IsSome, length, get_or}
use Rattle.std.specs.FinMap as map
use Rattle.engine_bench.proofs.slots.take_all.Given as goal

abbrev pub invariant-loop-at : goal.invariant-loop-at
invariant-loop-at l = (k d : ℕ) → l.at ≤ k → k < length l.names → IsSome (map.get l.slots.live (get_or l.names k d))
