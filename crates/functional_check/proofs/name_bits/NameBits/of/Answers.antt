use Rattle.std.proofs.Common.{sym, subst}
use Rattle.span_core.specs.Lists.{Has}
use Rattle.span_core.proofs.HasLaws.{Contains-Has}
use Rattle.functional_check.proofs.NumberedLaws.{members_none, members_one}
use Rattle.functional_check.proofs.name_bits.NameBits.of.Goals as goal

pub returns-in-Some : goal.returns-in-Some
returns-in-Some c = members_one c.args.names.now c.in-Some.number c.args.name.now c.single.result c.in-Some.ensures.some c.single.ensures

pub returns-in-None : goal.returns-in-None
returns-in-None c =
    let names = c.args.names.now in
    λ x. (
      λ h. absurd (members_none names c.empty.result c.empty.ensures x h),
      λ p. absurd (c.in-None.ensures.none (Contains-Has names c.args.name.now (subst (Has names) (sym p.0) p.1))),
    )
