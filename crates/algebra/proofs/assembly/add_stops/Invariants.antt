use Rattle.std.proofs.Common.{◌≡◌, ◌+◌, ◌≤◌, ◌++◌, List, length, take}
use Rattle.std.specs.List.{flat_map}
use Rattle.marked_automaton.specs.declared.way.Stop.{Stop}
use Rattle.algebra.specs.Pairs.{HasAllButStops, IsStopAt, Matched, stops_at_pair}
use Rattle.algebra.specs.Sides.{stops_tried}
use Rattle.algebra.proofs.assembly.add_stops.Given as goal

abbrev pub invariant-loop-state : goal.invariant-loop-state
invariant-loop-state l = record {
  names : l.automaton.names ≡ l.initial.automaton.names;
  stops : (made : List Stop) × (l.automaton.graph.stops ≡ l.initial.automaton.graph.stops ++ made)
      × Matched (IsStopAt l.found) (flat_map (stops_at_pair l.xs l.ys) (take l.state l.found)) made;
  same : HasAllButStops l.automaton.graph l.initial.automaton.graph;
  effort : l.effort ≤ l.initial.effort;
  steps : l.initial.effort ≤ l.effort + length (stops_tried l.xs l.ys (take l.state l.found));
}
