use Rattle.std.proofs.Common.{◌≡◌, ℕ, ◌<◌, ◌↔◌, ◌⊎◌}
use Rattle.span_core.specs.Lists.{Has}
use Rattle.marked_automaton.specs.Automaton.{HasGraphOf}
use Rattle.algebra.specs.Pairs.{IsIdlePair}
use Rattle.algebra.proofs.assembly.add_idle.Given as goal

abbrev pub invariant-loop-state : goal.invariant-loop-state
invariant-loop-state l = record {
  names : l.automaton.names ≡ l.initial.automaton.names;
  graph : HasGraphOf l.automaton.graph l.initial.automaton.graph;
  idles : (p : ℕ) → Has l.automaton.graph.idle p ↔ (Has l.initial.automaton.graph.idle p ⊎ ((p < l.state) × IsIdlePair l.found l.a.graph.idle l.b.graph.idle p));
}
