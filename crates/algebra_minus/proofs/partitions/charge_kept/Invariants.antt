use Rattle.std.proofs.Common.{◌+◌, ◌≤◌}
use Rattle.algebra_minus.proofs.partitions.charge_kept.Given as goal

abbrev pub invariant-loop-number : goal.invariant-loop-number
invariant-loop-number l = (l.effort ≤ l.initial.effort) × (l.initial.effort + l.room ≤ l.effort + l.initial.room)
