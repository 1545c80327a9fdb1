use Rattle.std.proofs.Common.{◌≡◌, ◌++◌, map, take, drop}
use Rattle.place_automaton.specs.Places.{stop_with}
use Rattle.place_automaton.proofs.joins.mark_stops.Given as goal

abbrev pub invariant-loop-stop : goal.invariant-loop-stop
invariant-loop-stop l = l.stops ≡ map (stop_with l.marks) (take l.stop-index l.fn.stops) ++ drop l.stop-index l.fn.stops
