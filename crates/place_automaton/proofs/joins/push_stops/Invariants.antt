use Rattle.std.proofs.Common.{◌≡◌, ◌++◌, map, take}
use Rattle.place_automaton.specs.Places.{stop_with}
use Rattle.place_automaton.proofs.joins.push_stops.Given as goal

abbrev pub invariant-loop-stop : goal.invariant-loop-stop
invariant-loop-stop l = l.all.items ≡ l.fn.all.items ++ map (stop_with l.marks) (take l.stop-index l.stops)
