use Rattle.marked_automaton.specs.Trimmed.{moved_way}
use Rattle.marked_automaton.proofs.Loops.{IsPacked}
use Rattle.marked_automaton.proofs.trimming.Numbers.ways.Given as goal

abbrev pub invariant-loop-k : goal.invariant-loop-k
invariant-loop-k l = IsPacked (moved_way l.self.numbers.items) l.fn.ways.items l.k l.count l.ways.items
