use Rattle.std.proofs.Common.{◌≤◌}
use Rattle.byte_runs.proofs.inner.last_behind.Given as goal

abbrev pub invariant-loop : goal.invariant-loop
invariant-loop l = l.at ≤ l.place
