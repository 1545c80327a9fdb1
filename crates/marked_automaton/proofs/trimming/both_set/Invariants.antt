use Rattle.std.proofs.Common.{◌≡◌, ◌++◌, drop}
use Rattle.marked_automaton.specs.Trimmed.{both}
use Rattle.marked_automaton.proofs.trimming.both_set.Given as goal

abbrev pub invariant-loop-k : goal.invariant-loop-k
invariant-loop-k l = l.flags.items ++ both (drop l.k l.left) (drop l.k l.right) ≡ both l.left l.right
