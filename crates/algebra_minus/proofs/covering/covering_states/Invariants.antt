use Rattle.std.proofs.Common.{◌≡◌, ◌+◌, ◌≤◌, length}
use Rattle.algebra_minus.specs.Rights.{AreCovering}
use Rattle.algebra_minus.proofs.covering.covering_states.Given as goal

abbrev pub invariant-loop-state : goal.invariant-loop-state
invariant-loop-state l = record {
  long : length l.covering.items ≡ l.state;
  covering : AreCovering l.automaton.graph.ways l.covering.items;
}
