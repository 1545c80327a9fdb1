use Rattle.span_core.specs.Lists.{Has}
use Rattle.functional_check.specs.Numbered.{members}
use Rattle.functional_check.proofs.LeastLaws.{least_same}
use Rattle.functional_check.proofs.NumberedLaws.{members_both, members_without}
use Rattle.query_parser.specs.Bounds.{bound_in, IsUnsureIn}
use Rattle.query_parser.proofs.CheckLaws.{unsure_in}
use Rattle.query_parser.proofs.check.Bound.least_unsure.Goals as goal

pub returns : goal.returns
returns c =
    let names = c.args.names.now in
    let a = c.args.self in
    let b = c.args.part in
    let vars = c.meet-vars.result in
    let sure = c.meet-sure.result in
    let both = c.without.result in
    least_same (Has (members names both)) (IsUnsureIn (bound_in names a) (bound_in names b)) c.least.result
    (unsure_in names a b vars sure both (members_both names a.vars b.vars vars c.requires c.meet-vars.ensures) (members_both names a.sure b.sure sure c.requires c.meet-sure.ensures)
    (members_without names vars sure both c.requires c.without.ensures)) c.least.ensures
