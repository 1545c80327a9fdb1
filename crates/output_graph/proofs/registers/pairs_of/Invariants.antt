use Rattle.std.proofs.Common.{◌≡◌, take}
use Rattle.output_graph.specs.Sets.{paired}
use Rattle.output_graph.proofs.registers.pairs_of.Given as goal

abbrev pub invariant-loop-k : goal.invariant-loop-k
invariant-loop-k l = l.made.items ≡ paired (take l.k l.pairs) (take l.k l.cells)
