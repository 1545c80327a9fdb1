use Rattle.std.proofs.Common.{◌≡◌}
use Rattle.output_graph.specs.Codes.{first_symbols}
use Rattle.output_graph.proofs.code.Symbols.first.Given as goal

abbrev pub invariant-loop-k : goal.invariant-loop-k
invariant-loop-k l = l.registers.items ≡ first_symbols l.k
