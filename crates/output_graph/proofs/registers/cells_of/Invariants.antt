use Rattle.std.proofs.Common.{◌≡◌, take}
use Rattle.output_graph.specs.Sets.{cells_in}
use Rattle.output_graph.proofs.registers.cells_of.Given as goal

abbrev pub invariant-loop-pair : goal.invariant-loop-pair
invariant-loop-pair l = l.cells.items ≡ cells_in (take l.pair-index l.pairs)
