use Rattle.std.proofs.Common.{◌≡◌, ◌+◌, drop}
use Rattle.output_graph.specs.Programs.{place_in}
use Rattle.output_graph.proofs.program.place_of.Given as goal

abbrev pub invariant-loop-k : goal.invariant-loop-k
invariant-loop-k l = place_in l.sets l.set ≡ l.k + place_in (drop l.k l.sets) l.set
