use Rattle.span_core.proofs.HasLaws.{Contains-Has}
use Rattle.functional_check.proofs.NumberedLaws.{members_within, tells_number}
use Rattle.functional_check.proofs.name_bits.NameBits.has.Goals as goal

pub returns-in-Some : goal.returns-in-Some
returns-in-Some c = tells_number c.args.names.now c.args.self c.in-Some.number c.args.name.now c.len.ensures.ascending c.in-Some.ensures.some

pub returns-in-None : goal.returns-in-None
returns-in-None c =
    let names = c.args.names.now in
    let name = c.args.name.now in
    (λ t. absurd (cc), λ h. absurd (c.in-None.ensures.none (Contains-Has names name (members_within names c.args.self name h))))
