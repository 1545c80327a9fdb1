use Rattle.std.proofs.Common.{◌≡◌, take}
use Rattle.place_automaton.specs.Places.{sums}
use Rattle.place_automaton.proofs.null_sets.joined_with.Given as goal

abbrev pub invariant-loop-marks : goal.invariant-loop-marks
invariant-loop-marks l = l.all.items ≡ sums (take l.marks-index l.fn.front.items) l.behind.items
