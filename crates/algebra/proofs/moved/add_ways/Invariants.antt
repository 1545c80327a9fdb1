use Rattle.std.proofs.Common.{◌≡◌, ◌++◌, take}
use Rattle.std.specs.Prelude.{map}
use Rattle.algebra.specs.Operations.{moved_way}
use Rattle.algebra.proofs.moved.add_ways.Given as goal

abbrev pub invariant-loop-way : goal.invariant-loop-way
invariant-loop-way l = record {
  names : l.whole.names ≡ l.initial.whole.names;
  ways : l.whole.graph.ways ≡ l.initial.whole.graph.ways ++ map (moved_way l.by) (take l.way-index l.ways);
  states : l.whole.graph.states ≡ l.initial.whole.graph.states;
  starts : l.whole.graph.starts ≡ l.initial.whole.graph.starts;
  stops : l.whole.graph.stops ≡ l.initial.whole.graph.stops;
  idle : l.whole.graph.idle ≡ l.initial.whole.graph.idle;
}
