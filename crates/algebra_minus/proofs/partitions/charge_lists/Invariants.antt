use Rattle.std.proofs.Common.{◌+◌, ◌≤◌}
use Rattle.algebra_minus.proofs.partitions.charge_lists.Given as goal

abbrev pub invariant-loop-piece : goal.invariant-loop-piece
invariant-loop-piece l = (l.effort ≤ l.initial.effort) × (l.initial.effort + l.room ≤ l.effort + l.initial.room)
