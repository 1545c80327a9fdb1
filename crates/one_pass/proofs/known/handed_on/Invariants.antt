use Rattle.std.proofs.Common.{take}
use Rattle.output_graph.specs.Named.{handing}
use Rattle.span_core.specs.Lists.{AreDistinct}
use Rattle.one_pass.specs.Known.{AreLookUps}
use Rattle.one_pass.proofs.known.handed_on.Given as goal

abbrev pub invariant-loop-set : goal.invariant-loop-set
invariant-loop-set l = record {
  look_ups : AreLookUps l.table l.byte (take l.set-index l.sets) (handing l.to.items);
  distinct : AreDistinct l.to.items;
}
