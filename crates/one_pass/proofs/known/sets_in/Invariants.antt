use Rattle.std.proofs.Common.{◌≡◌, take}
use Rattle.output_graph.specs.Graph.{sets_of}
use Rattle.one_pass.proofs.known.sets_in.Given as goal

abbrev pub invariant-loop-k : goal.invariant-loop-k
invariant-loop-k l = l.sets.items ≡ take l.k (sets_of l.graph.layer)
