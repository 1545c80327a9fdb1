use Rattle.std.proofs.Common.{◌-◌, ◌≤◌, length}
use Rattle.byte_runs.proofs.chain.run_of.Given as goal

abbrev pub invariant-loop-k : goal.invariant-loop-k
invariant-loop-k l = l.from ≤ l.k

abbrev pub decreases-loop-k : goal.decreases-loop-k
decreases-loop-k l = length l.sets - l.k
