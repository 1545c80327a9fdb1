use Rattle.std.proofs.Common.{◌≡◌, ℕ, ◌<◌, ◌↔◌, ◌⊎◌}
use Rattle.span_core.specs.Lists.{Has}
use Rattle.algebra.specs.Pairs.{HasAllButStarts}
use Rattle.algebra.proofs.assembly.add_starts.Given as goal

abbrev pub invariant-loop-state : goal.invariant-loop-state
invariant-loop-state l = record {
  names : l.automaton.names ≡ l.initial.automaton.names;
  starts : (p : ℕ) → Has l.automaton.graph.starts p ↔ (Has l.initial.automaton.graph.starts p ⊎ (p < l.state));
  same : HasAllButStarts l.automaton.graph l.initial.automaton.graph;
}
