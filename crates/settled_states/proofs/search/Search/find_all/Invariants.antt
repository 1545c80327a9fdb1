use Rattle.std.proofs.Common.{ℕ, take}
use Rattle.span_core.specs.Lists.{Has}
use Rattle.marked_automaton.specs.Reach.{Grows, IsFlagged}
use Rattle.settled_states.proofs.search.Search.find_all.Given as goal

abbrev pub invariant-loop-state : goal.invariant-loop-state
invariant-loop-state l = record {
  grows : Grows (Has l.states) l.initial.self.found.items l.initial.self.waiting.items l.self.found.items l.self.waiting.items;
  found : (p : ℕ) → Has (take l.state-index l.states) p → IsFlagged l.self.found.items p;
}
