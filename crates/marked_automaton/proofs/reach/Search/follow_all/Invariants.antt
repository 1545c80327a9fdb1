use Rattle.std.proofs.Common.{◌≡◌, ℕ, ◌+◌, List, length}
use Rattle.span_core.specs.Lists.{Has}
use Rattle.marked_automaton.specs.Reach.{AreTargets, IsFlagged, IsSearch, unset}
use Rattle.marked_automaton.specs.declared.reach.Edge.{Edge}
use Rattle.marked_automaton.proofs.reach.Search.follow_all.Given as goal

abbrev pub invariant-loop-node : goal.invariant-loop-node
invariant-loop-node l = record {
  len : length l.self.found.items ≡ length l.initial.self.found.items;
  waiting : (p : ℕ) → Has l.self.waiting.items p → IsFlagged l.self.found.items p;
  search : (edges : List Edge) (seeds : List ℕ) → AreTargets edges l.targets → IsSearch edges seeds l.initial.self.found.items l.initial.self.waiting.items →
      IsSearch edges seeds l.self.found.items l.self.waiting.items;
}

abbrev pub decreases-loop-node : goal.decreases-loop-node
decreases-loop-node l = unset l.self.found.items + length l.self.waiting.items
