use Rattle.std.proofs.Common.{◌≡◌, ◌++◌, map, take}
use Rattle.std.specs.List.{flat_map}
use Rattle.place_automaton.specs.Places.{stop_with}
use Rattle.place_automaton.proofs.joins.all_stops.Given as goal

abbrev pub invariant-loop-marks : goal.invariant-loop-marks
invariant-loop-marks l = l.all.items ≡ l.fn.behind.items ++ flat_map (λ m. map (stop_with m) l.front.items) (take l.marks-index l.null)
