use Rattle.std.proofs.Common.{◌≡◌, ◌+◌, ◌++◌, map, take, drop}
use Rattle.place_automaton.proofs.null_sets.mark_each.Given as goal

abbrev pub invariant-loop-set : goal.invariant-loop-set
invariant-loop-set l = l.sets ≡ map (◌+◌ l.marks) (take l.set-index l.fn.sets) ++ drop l.set-index l.fn.sets
