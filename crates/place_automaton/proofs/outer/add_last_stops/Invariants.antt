use Rattle.std.proofs.Common.{◌≡◌, take}
use Rattle.place_automaton.specs.Made.{with_stops}
use Rattle.place_automaton.proofs.outer.add_last_stops.Given as goal

abbrev pub invariant-loop-stop : goal.invariant-loop-stop
invariant-loop-stop l = (l.automaton.names ≡ l.fn.automaton.names) × (l.automaton.graph ≡ with_stops (take l.stop-index l.last) l.fn.automaton.graph)
