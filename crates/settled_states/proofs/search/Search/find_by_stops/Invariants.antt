use Rattle.std.proofs.Common.{take}
use Rattle.settled_states.specs.States.{HasMarkedEnd}
use Rattle.settled_states.proofs.Marking.{IsFoundSoFar}
use Rattle.settled_states.proofs.search.Search.find_by_stops.Given as goal

abbrev pub invariant-loop-stop : goal.invariant-loop-stop
invariant-loop-stop l = IsFoundSoFar (HasMarkedEnd l.stops) (HasMarkedEnd (take l.stop-index l.stops)) l.initial.self l.self
