use Rattle.std.proofs.Common.{◌≡◌, ℕ, ◌+◌, List, length}
use Rattle.span_core.specs.Lists.{Has}
use Rattle.marked_automaton.specs.Reach.{AreTargets, IsFlagged, IsSearch, unset}
use Rattle.marked_automaton.specs.Trimmed.{back_edges_of}
use Rattle.marked_automaton.specs.declared.way.Way.{Way}
use Rattle.settled_states.proofs.search.Search.follow_all.Given as goal

abbrev pub invariant-loop-state : goal.invariant-loop-state
invariant-loop-state l = record {
  len : length l.self.found.items ≡ length l.initial.self.found.items;
  waiting : (p : ℕ) → Has l.self.waiting.items p → IsFlagged l.self.found.items p;
  search : (ways : List Way) (seeds : List ℕ) → AreTargets (back_edges_of ways) l.sources → IsSearch (back_edges_of ways) seeds l.initial.self.found.items l.initial.self.waiting.items →
      IsSearch (back_edges_of ways) seeds l.self.found.items l.self.waiting.items;
}

abbrev pub decreases-loop-state : goal.decreases-loop-state
decreases-loop-state l = unset l.self.found.items + length l.self.waiting.items
