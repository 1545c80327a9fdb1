use Rattle.std.proofs.Common.{◌≡◌, ◌++◌, ℕ, List, length}
use Rattle.place_automaton.specs.Places.{either_once}
use Rattle.place_automaton.proofs.null_sets.either_of_few.Given as goal

abbrev pub invariant-loop-marks : goal.invariant-loop-marks
invariant-loop-marks l = (done : List ℕ) × (l.fn.front.items ≡ l.front.items ++ done) × (l.all.items ≡ either_once done l.fn.behind.items)

abbrev pub decreases-loop-marks : goal.decreases-loop-marks
decreases-loop-marks l = length l.front.items
