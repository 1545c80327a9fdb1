use Rattle.std.proofs.Common.{take}
use Rattle.span_core.specs.Lists.{Has}
use Rattle.output_graph.specs.Graph.{Source, sources}
use Rattle.numbered_lists.specs.Numbered.{set_at}
use Rattle.way_exits.specs.Exits.{Knows}
use Rattle.one_pass.proofs.waiting.knows_layer.Given as goal

-- those so far
abbrev pub invariant-loop-k : goal.invariant-loop-k
invariant-loop-k l = (x : Source) → Has (take l.k (sources l.graph)) x → Knows l.waiting (set_at l.table.sets x.set)
