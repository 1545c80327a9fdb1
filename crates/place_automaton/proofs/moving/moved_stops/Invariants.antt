use Rattle.std.proofs.Common.{◌≡◌, map, take}
use Rattle.place_automaton.specs.Moves.{stop_moved}
use Rattle.place_automaton.proofs.moving.moved_stops.Given as goal

abbrev pub invariant-loop-stop : goal.invariant-loop-stop
invariant-loop-stop l = l.moved.items ≡ map (stop_moved l.by) (take l.stop-index l.stops)
