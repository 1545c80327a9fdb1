use Rattle.std.proofs.Common.{◌≡◌, take}
use Rattle.output_graph.proofs.code.begins_with.Given as goal

abbrev pub invariant-loop-k : goal.invariant-loop-k
invariant-loop-k l = take l.k l.symbols ≡ take l.k l.held
