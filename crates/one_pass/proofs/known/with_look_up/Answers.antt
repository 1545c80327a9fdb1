use Rattle.std.proofs.Common.{refl}
use Rattle.output_graph.specs.Sound.{edges_of}
use Rattle.one_pass.proofs.GraphLaws.{descend_edges}
use Rattle.one_pass.proofs.known.with_look_up.Goals as goal

pub with_source-requires : goal.with_source-requires
with_source-requires c = descend_edges c.in_ok-edges.edges.now c.in_ok-edges.ensures.some.1.order

pub returns-in-Ok : goal.returns-in-Ok
returns-in-Ok c = (
  edges_of c.in_ok-edges.edges.now,
  record {
    given = c.in_ok-edges.ensures.some.0;
    asked = c.in_ok-edges.ensures.asked;
    by = c.in_ok-edges.edges.now;
    are = refl;
    edges = c.in_ok-edges.ensures.some.1;
  },
  c.in-Ok.ensures,
)
