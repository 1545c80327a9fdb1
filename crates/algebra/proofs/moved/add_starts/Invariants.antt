use Rattle.std.proofs.Common.{◌≡◌, ◌++◌, ◌+◌, take}
use Rattle.std.specs.Prelude.{map}
use Rattle.algebra.proofs.moved.add_starts.Given as goal

abbrev pub invariant-loop-state : goal.invariant-loop-state
invariant-loop-state l = record {
  names : l.whole.names ≡ l.initial.whole.names;
  starts : l.whole.graph.starts ≡ l.initial.whole.graph.starts ++ map (◌+◌ l.by) (take l.state-index l.starts);
  states : l.whole.graph.states ≡ l.initial.whole.graph.states;
  ways : l.whole.graph.ways ≡ l.initial.whole.graph.ways;
  stops : l.whole.graph.stops ≡ l.initial.whole.graph.stops;
  idle : l.whole.graph.idle ≡ l.initial.whole.graph.idle;
}
