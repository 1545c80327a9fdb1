use Rattle.std.proofs.Common.{◌≡◌, ℕ, ◌<◌, ◌↔◌, true, false, length, get_or}
use Rattle.marked_automaton.specs.Reach.{IsFlagged}
use Rattle.marked_automaton.specs.Trimmed.{count_set}
use Rattle.settled_states.specs.Covering.{HasEachByte}
use Rattle.settled_states.proofs.Covers.{no_bytes}
use Rattle.settled_states.proofs.lasting.leave_out.Given as goal

abbrev pub invariant-loop-k : goal.invariant-loop-k
invariant-loop-k l = record {
  len : length l.flags ≡ length l.initial.flags;
  kept : (q : ℕ) → IsFlagged l.flags q ↔ (IsFlagged l.initial.flags q × (q < l.k → HasEachByte (get_or l.sets q no_bytes)));
  same : l.some ≡ false → l.flags ≡ l.initial.flags;
  fewer : l.some ≡ true → count_set l.flags < count_set l.initial.flags;
}
