use Rattle.std.proofs.Common.{◌≡◌, ℕ, ◌≤◌, ◌↔◌, length}
use Rattle.span_core.specs.Block.{block}
use Rattle.marked_automaton.specs.Accepting.{AcceptsFrom}
use Rattle.marked_automaton.specs.Reach.{IsFlagged}
use Rattle.marked_automaton.proofs.accepting.accepting.Given as goal

abbrev pub invariant-loop-at : goal.invariant-loop-at
invariant-loop-at l = record {
  within : l.at ≤ length l.doc;
  len : length l.good.items ≡ l.states;
  exactly : (p : ℕ) → IsFlagged l.good.items p ↔ AcceptsFrom l.ways l.stops l.doc (block l.row) l.at p;
}

abbrev pub decreases-loop-at : goal.decreases-loop-at
decreases-loop-at l = l.at
