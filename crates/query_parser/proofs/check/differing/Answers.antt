use Rattle.std.proofs.Common.{Some, refl}
use Rattle.span_core.specs.Lists.{Has}
use Rattle.functional_check.specs.Numbered.{members}
use Rattle.functional_check.proofs.LeastLaws.{least_same}
use Rattle.functional_check.proofs.NumberedLaws.{members_either, members_without}
use Rattle.query_parser.specs.Bounds.{bound_in, IsInOne}
use Rattle.query_parser.proofs.CheckLaws.{one_alone}
use Rattle.query_parser.proofs.check.differing.Goals as goal

pub returns-in-Some : goal.returns-in-Some
returns-in-Some c =
    let names = c.args.names.now in
    let a = c.args.left in
    let b = c.args.right in
    let first = c.without-first.result in
    let second = c.without-second.result in
    let both = c.union-both.result in
    let alone = one_alone names a b first second both (members_without names a.vars b.vars first c.requires c.without-first.ensures)
    (members_without names b.vars a.vars second c.requires c.without-second.ensures) (members_either names first second both c.union-both.ensures) in
    (c.in-Some.var, least_same (Has (members names both)) (IsInOne (bound_in names a) (bound_in names b)) (Some c.in-Some.var) alone c.in-Some.ensures, refl)

pub returns-in-None : goal.returns-in-None
returns-in-None c =
    let names = c.args.names.now in
    let a = c.args.left in
    let b = c.args.right in
    let first = c.without-first.result in
    let second = c.without-second.result in
    let both = c.union-both.result in
    let alone = one_alone names a b first second both (members_without names a.vars b.vars first c.requires c.without-first.ensures)
    (members_without names b.vars a.vars second c.requires c.without-second.ensures) (members_either names first second both c.union-both.ensures) in
    (refl, λ x h. c.in-None.ensures x ((alone x).1 h))
