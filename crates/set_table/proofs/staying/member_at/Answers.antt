use Rattle.std.proofs.Common.{sym, subst}
use Rattle.std.specs.Option.{IfNone}
use Rattle.set_table.specs.Staying.{IsInside}
use Rattle.automaton_reading.proofs.Searched.{searched_at}
use Rattle.set_table.proofs.StayingLaws.{none_at}
use Rattle.set_table.proofs.staying.member_at.Goals as goal

pub returns-clause-none : goal.returns-clause-none
returns-clause-none c =
    let members = c.args.members.now in
    let y = c.args.way.now in
    subst (λ o. IfNone o (IsInside members y → ⊥)) (sym c.ok.ensures.value)
    (none_at members y c.binary_search.result (searched_at members y.to c.binary_search.result c.requires c.binary_search.ensures.position))
