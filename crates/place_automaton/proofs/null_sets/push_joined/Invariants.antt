use Rattle.std.proofs.Common.{◌≡◌, ◌+◌, ◌++◌, map, take}
use Rattle.place_automaton.proofs.null_sets.push_joined.Given as goal

abbrev pub invariant-loop-set : goal.invariant-loop-set
invariant-loop-set l = l.all.items ≡ l.fn.all.items ++ map (◌+◌ l.marks) (take l.set-index l.behind)
