use Rattle.std.proofs.Common.{◌≡◌, ℕ, ◌+◌, ◌<◌, ◌↔◌, ◌⊎◌}
use Rattle.span_core.specs.Lists.{Has}
use Rattle.marked_automaton.specs.Automaton.{HasGraphOf}
use Rattle.algebra.proofs.moved.add_idle.Given as goal

abbrev pub invariant-loop-state : goal.invariant-loop-state
invariant-loop-state l = record {
  names : l.whole.names ≡ l.initial.whole.names;
  graph : HasGraphOf l.whole.graph l.initial.whole.graph;
  idles : (p : ℕ) → Has l.whole.graph.idle p ↔ (Has l.initial.whole.graph.idle p ⊎ ((q : ℕ) × (q < l.state) × Has l.part.graph.idle q × (l.by + q ≡ p)));
}
