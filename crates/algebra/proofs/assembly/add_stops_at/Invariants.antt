use Rattle.std.proofs.Common.{◌≡◌, ◌+◌, ◌*◌, ◌≤◌, ◌++◌, length, take, map}
use Rattle.algebra.specs.Pairs.{HasAllButStops, pairs, stop_at, stop_pair, stops_meet}
use Rattle.algebra.proofs.assembly.add_stops_at.Given as goal

abbrev pub invariant-loop-x : goal.invariant-loop-x
invariant-loop-x l = record {
  names : l.automaton.names ≡ l.initial.automaton.names;
  stops : l.automaton.graph.stops ≡ l.initial.automaton.graph.stops ++ map (stop_at l.state) (pairs stops_meet stop_pair l.ys (take l.x-index l.xs));
  same : HasAllButStops l.automaton.graph l.initial.automaton.graph;
  effort : l.effort ≤ l.initial.effort;
  steps : l.initial.effort ≤ l.effort + l.x-index * length l.ys;
}
