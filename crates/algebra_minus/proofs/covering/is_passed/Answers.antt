use Rattle.std.proofs.Common.{◌-◌, false}
use Rattle.std.specs.Prelude.{get_or}
use Rattle.std.proofs.lemmas.Bool.{OnTrue_from}
use Rattle.algebra_minus.specs.Rights.{IsPassed}
use Rattle.algebra_minus.proofs.CoveringLaws.{one_before, passed_at}
use Rattle.algebra_minus.proofs.covering.is_passed.Goals as goal

pub returns : goal.returns
returns c =
    let noted = c.args.covering.now in
    let members = c.args.members.now in
    let place = c.args.place in
    OnTrue_from (get_or noted (get_or members (place - 1) 0) false) (IsPassed noted members place)
    (passed_at noted members place (place - 1) (one_before place c.if-place-eq0.false) c.requires c.if-members-place.false c.if-before-covering.false)
