use Rattle.std.proofs.Common.{◌≡◌, ℕ, ◌↔◌, ◌++◌, List, Bool, drop, length, take, subst, sym, ap, ◌∙◌}
use Rattle.std.proofs.Math.Seq.{take-append_seam}
use Rattle.marked_automaton.specs.Reach.{IsFlagged}
use Rattle.marked_automaton.specs.declared.way.Way.{Way}
use Rattle.settled_states.specs.Covering.{LeadsInto}
use Rattle.settled_states.specs.States.{AreLasting}
use Rattle.settled_states.proofs.Covers.{BoundsLasting, bounds_next, lasting_same}
use Rattle.settled_states.proofs.lasting.lasting_states.Goals as goal
use Rattle.settled_states.proofs.lasting.lasting_states.Goals.{In_ok-leave_out_uncovered}

-- what the round wrote is all of the flags
written : (c : In_ok-leave_out_uncovered) →
    c.leave_out_uncovered.new.flags ≡ take c.loop-flags.flags.len (c.leave_out_uncovered.new.flags ++ drop (length c.leave_out_uncovered.new.flags) c.loop-flags.flags.items)
written c =
    let new = c.leave_out_uncovered.new.flags in
    let rest = drop (length new) c.loop-flags.flags.items in
    let len : length new ≡ c.loop-flags.flags.len = c.in_ok-leave_out_uncovered.ensures.len ∙ (ap length c.as_mut_slice.ensures.value ∙ sym c.loop-flags.flags.ok.0) in
    sym (take-append_seam new rest) ∙ ap (λ k. take k (new ++ rest)) len

-- and what it left
left : (c : In_ok-leave_out_uncovered) → (q : ℕ) → IsFlagged c.leave_out_uncovered.new.flags q
    ↔ (IsFlagged c.loop-flags.flags.items q × LeadsInto c.args.automaton.now.graph.ways (IsFlagged c.loop-flags.flags.items) q)
left c =
    let new = c.leave_out_uncovered.new.flags in
    let old = c.loop-flags.flags.items in
    subst (λ (ys : List Way). (q : ℕ) → IsFlagged new q ↔ (IsFlagged old q × LeadsInto ys (IsFlagged old) q)) c.ways-ways.ensures
    (subst (λ (xs : List Bool). (q : ℕ) → IsFlagged new q ↔ (IsFlagged xs q × LeadsInto c.ways-ways.result.now (IsFlagged xs) q)) c.as_mut_slice.ensures.value c.in_ok-leave_out_uncovered.ensures.kept)

pub returns-then-not-branch-clause-lasting : goal.returns-then-not-branch-clause-lasting
returns-then-not-branch-clause-lasting c =
    let d = (goal.at.returns-then-not-branch-clause-lasting c).In_ok-leave_out_uncovered in
    let A = c.args.automaton.now.graph in
    let new = c.leave_out_uncovered.new.flags in
    let same : new ≡ c.loop-flags.flags.items = c.in_ok-leave_out_uncovered.ensures.same c.if-not-branch.true ∙ c.as_mut_slice.ensures.value in
    subst (λ (xs : List Bool). AreLasting A (IsFlagged xs)) (written d) (lasting_same A c.loop-flags.flags.items new c.loop-flags.invariant.bounds (left d) same)

pub loop-flags-preserved : goal.loop-flags-preserved
loop-flags-preserved c =
    let d = (goal.at.loop-flags-preserved c).In_ok-leave_out_uncovered in
    let A = c.args.automaton.now.graph in
    let new = c.leave_out_uncovered.new.flags in
    record {
      len = ap length (sym (written d)) ∙ (c.in_ok-leave_out_uncovered.ensures.len ∙ (ap length c.as_mut_slice.ensures.value ∙ c.loop-flags.invariant.len));
      bounds = subst (BoundsLasting A) (written d) (bounds_next A c.loop-flags.flags.items new c.loop-flags.invariant.bounds (left d));
    }
