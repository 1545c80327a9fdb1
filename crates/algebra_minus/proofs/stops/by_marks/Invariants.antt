use Rattle.std.proofs.Common.{◌≡◌, take}
use Rattle.algebra_minus.proofs.stops.by_marks.Given as goal

abbrev pub invariant-loop-stop : goal.invariant-loop-stop
invariant-loop-stop l = l.sorted.items ≡ take l.stop-index l.stops
