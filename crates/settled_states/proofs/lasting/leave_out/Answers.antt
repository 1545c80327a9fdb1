use Rattle.std.proofs.Common.{◌≡◌, ℕ, ◌+◌, ◌<◌, ◌↔◌, Bool, false, List, length, get_or, subst, sym, ap, arith, ◌∙◌}
use Rattle.std.proofs.Math.ListN.{set, length-set}
use Rattle.std.proofs.lemmas.Bool.{false≢true}
use Rattle.std.proofs.lemmas.List.{get_or_default}
use Rattle.marked_automaton.specs.Reach.{IsFlagged}
use Rattle.marked_automaton.specs.Trimmed.{count_set}
use Rattle.settled_states.specs.Covering.{HasEachByte, IsUncovered}
use Rattle.settled_states.proofs.Covers.{fewer_set, fewer_then, left_as_it_was, left_out, no_bytes}
use Rattle.settled_states.proofs.lasting.leave_out.Goals as goal
use Rattle.settled_states.proofs.lasting.leave_out.Goals.{then-is_uncovered, else-is_uncovered}

pub loop-k-preserved : goal.loop-k-preserved
loop-k-preserved c =
    let sets = c.args.sets.now in
    let k = c.loop-k.k in
    let old = c.args.flags.now in
    let flags = c.loop-k.flags in
    let inv = c.loop-k.invariant in
    let within : k < length sets = omega (arith, c.requires, inv.len) in
    let set_is : c.index-sets-k.result ≡ get_or sets k no_bytes = c.index-sets-k.is ∙ get_or_default sets k c.index-sets-k.result no_bytes within in
    elim c.if-is_uncovered.branch [
      | then-is_uncovered w ↦
          let un : IsUncovered (get_or flags k false) (get_or sets k no_bytes) = subst (IsUncovered (get_or flags k false)) set_is (c.is_uncovered.ensures.yes w.if-is_uncovered.true) in
          let less : count_set (set flags k false) < count_set flags = fewer_set flags k un.flagged in
          let kept = left_out sets k old flags (get_or flags k false) ((λ h. h), (λ h. h)) inv.kept un in
          record {
            len = ap length w.flags-is ∙ (length-set flags k false ∙ inv.len);
            kept = subst (λ (xs : List Bool). (q : ℕ) → IsFlagged xs q ↔ (IsFlagged old q × (q < k + 1 → HasEachByte (get_or sets q no_bytes)))) (sym w.flags-is) kept;
            same = λ e. absurd (false≢true (sym e ∙ w.some-is));
            fewer = λ e. subst (λ (xs : List Bool). count_set xs < count_set old) (sym w.flags-is) (fewer_then old flags (set flags k false) c.loop-k.some inv.same inv.fewer less);
          }
      | else-is_uncovered w ↦
          let each : IsFlagged flags k → HasEachByte (get_or sets k no_bytes) = λ h. subst HasEachByte set_is (c.is_uncovered.ensures.no w.if-is_uncovered.false h) in
          let kept = left_as_it_was sets k old flags (get_or flags k false) ((λ h. h), (λ h. h)) inv.kept each in
          record {
            len = ap length w.flags-is ∙ inv.len;
            kept = subst (λ (xs : List Bool). (q : ℕ) → IsFlagged xs q ↔ (IsFlagged old q × (q < k + 1 → HasEachByte (get_or sets q no_bytes)))) (sym w.flags-is) kept;
            same = λ e. w.flags-is ∙ inv.same (sym w.some-is ∙ e);
            fewer = λ e. subst (λ (xs : List Bool). count_set xs < count_set old) (sym w.flags-is) (inv.fewer (sym w.some-is ∙ e));
          }
    ]
