use Rattle.std.proofs.Common.{◌≡◌, ◌++◌, map, take}
use Rattle.std.specs.List.{flat_map}
use Rattle.place_automaton.specs.Places.{entry_with}
use Rattle.place_automaton.proofs.joins.all_entries.Given as goal

abbrev pub invariant-loop-marks : goal.invariant-loop-marks
invariant-loop-marks l = l.all.items ≡ l.fn.front.items ++ flat_map (λ m. map (entry_with m) l.behind.items) (take l.marks-index l.null)
