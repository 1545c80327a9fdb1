use Rattle.std.proofs.Common.{◌≡◌, length}
use Rattle.std.specs.Vec.{vec_len, vec_capacity}
use Rattle.output_graph.proofs.NamedLaws.{named_first}
use Rattle.output_graph.proofs.registers.write_names.Given as goal

-- the first k have their names
abbrev pub invariant-loop-k : goal.invariant-loop-k
invariant-loop-k l = record {
  names : l.sources.items ≡ named_first l.k l.sets l.initial.sources.items;
  long : length l.sources.items ≡ length l.initial.sources.items;
  len : vec_len l.sources ≡ vec_len l.initial.sources;
  capacity : vec_capacity l.sources ≡ vec_capacity l.initial.sources;
}
