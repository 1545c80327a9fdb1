use Rattle.std.proofs.Common.{◌≡◌, ◌++◌, take}
use Rattle.std.specs.Prelude.{map}
use Rattle.algebra.specs.Operations.{moved_stop}
use Rattle.algebra.proofs.moved.add_stops.Given as goal

abbrev pub invariant-loop-stop : goal.invariant-loop-stop
invariant-loop-stop l = record {
  names : l.whole.names ≡ l.initial.whole.names;
  stops : l.whole.graph.stops ≡ l.initial.whole.graph.stops ++ map (moved_stop l.by) (take l.stop-index l.stops);
  states : l.whole.graph.states ≡ l.initial.whole.graph.states;
  ways : l.whole.graph.ways ≡ l.initial.whole.graph.ways;
  starts : l.whole.graph.starts ≡ l.initial.whole.graph.starts;
  idle : l.whole.graph.idle ≡ l.initial.whole.graph.idle;
}
