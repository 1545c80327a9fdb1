use Rattle.std.proofs.Common.{◌≤◌, length}
use Rattle.way_exits.proofs.classes.part.Given as goal

abbrev pub invariant-loop-k : goal.invariant-loop-k
invariant-loop-k l = l.k-end ≤ length l.parts.items
