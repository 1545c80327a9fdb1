use Rattle.std.proofs.Common.{◌+◌, sym, ◌∙◌, subst}
use Rattle.byte_runs.specs.Runs.{AreOutsideBelow}
use Rattle.byte_runs.proofs.SetLaws.{one_more_inside, first_outside, second_outside, third_outside}
use Rattle.byte_runs.proofs.skipper.leaving_of.Goals as goal
use Rattle.byte_runs.proofs.skipper.leaving_of.Goals.{then-not-contains+in-None, then-not-contains+in-One, then-not-contains+in-Two, else-not-contains}

pub loop-number-preserved : goal.loop-number-preserved
loop-number-preserved c =
    let set = c.args.set.now in
    let n = c.loop-number.number in
    elim c.if-not-contains.branch [
      | then-not-contains+in-None w ↦ subst (AreOutsideBelow (n + 1) set) (sym w.leaving-is)
          (first_outside set n (sym c.contains.ensures ∙ w.if-not-contains.true) (subst (AreOutsideBelow n set) w.in-None.is c.loop-number.invariant))
      | then-not-contains+in-One w ↦ subst (AreOutsideBelow (n + 1) set) (sym w.leaving-is)
          (second_outside set n w.in-One.a (sym c.contains.ensures ∙ w.if-not-contains.true) (subst (AreOutsideBelow n set) w.in-One.is c.loop-number.invariant))
      | then-not-contains+in-Two w ↦ subst (AreOutsideBelow (n + 1) set) (sym w.leaving-is)
          (third_outside set n w.in-Two.a w.in-Two.b (sym c.contains.ensures ∙ w.if-not-contains.true) (subst (AreOutsideBelow n set) w.in-Two.is c.loop-number.invariant))
      | else-not-contains w ↦ subst (AreOutsideBelow (n + 1) set) (sym w.leaving-is)
          (one_more_inside set n c.loop-number.leaving (sym c.contains.ensures ∙ w.if-not-contains.false) c.loop-number.invariant)
    ]
