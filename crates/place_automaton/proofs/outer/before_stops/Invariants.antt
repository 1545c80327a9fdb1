use Rattle.std.proofs.Common.{◌≡◌, map, take}
use Rattle.place_automaton.specs.Atom.{stop_before}
use Rattle.place_automaton.proofs.outer.before_stops.Given as goal

abbrev pub invariant-loop-marks : goal.invariant-loop-marks
invariant-loop-marks l = l.stops.items ≡ map stop_before (take l.marks-index l.null)
