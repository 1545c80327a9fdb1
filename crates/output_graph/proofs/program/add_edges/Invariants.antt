use Rattle.std.proofs.Common.{take}
use Rattle.output_graph.specs.Plans.{HasEdges}
use Rattle.output_graph.proofs.program.add_edges.Given as goal

abbrev pub invariant-loop-edge : goal.invariant-loop-edge
invariant-loop-edge l = HasEdges l.source l.initial.plan (take l.edge-index l.edges) l.plan l.kept
