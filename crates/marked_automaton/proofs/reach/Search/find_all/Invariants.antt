use Rattle.std.proofs.Common.{ℕ, take}
use Rattle.span_core.specs.Lists.{Has}
use Rattle.marked_automaton.specs.Reach.{Grows, IsFlagged}
use Rattle.marked_automaton.proofs.reach.Search.find_all.Given as goal

abbrev pub invariant-loop-node : goal.invariant-loop-node
invariant-loop-node l = record {
  grows : Grows (Has l.nodes) l.initial.self.found.items l.initial.self.waiting.items l.self.found.items l.self.waiting.items;
  found : (p : ℕ) → Has (take l.node-index l.nodes) p → IsFlagged l.self.found.items p;
}
