use Rattle.std.proofs.Common.{◌≡◌, take}
use Rattle.place_automaton.specs.Places.{without}
use Rattle.place_automaton.proofs.null_sets.other_sets.Given as goal

abbrev pub invariant-loop-set : goal.invariant-loop-set
invariant-loop-set l = l.left.items ≡ without l.others (take l.set-index l.sets.items)
