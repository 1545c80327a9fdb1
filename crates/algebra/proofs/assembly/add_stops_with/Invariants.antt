use Rattle.std.proofs.Common.{◌≡◌, ◌++◌, take, map}
use Rattle.algebra.specs.Pairs.{HasAllButStops, stop_at, stops_with}
use Rattle.algebra.proofs.assembly.add_stops_with.Given as goal

abbrev pub invariant-loop-y : goal.invariant-loop-y
invariant-loop-y l = record {
  names : l.automaton.names ≡ l.initial.automaton.names;
  stops : l.automaton.graph.stops ≡ l.initial.automaton.graph.stops ++ map (stop_at l.state) (stops_with l.x (take l.y-index l.ys));
  same : HasAllButStops l.automaton.graph l.initial.automaton.graph;
}
