use Rattle.std.proofs.Common.{◌≡◌, take, map}
use Rattle.algebra.specs.Renaming.{half_stop}
use Rattle.algebra.proofs.halves.half_stops.Given as goal

abbrev pub invariant-loop-stop : goal.invariant-loop-stop
invariant-loop-stop l = l.halves.items ≡ map (half_stop l.own l.shared) (take l.stop-index l.stops)
