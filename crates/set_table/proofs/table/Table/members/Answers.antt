use Rattle.std.proofs.Common.{◌<◌, length, [], sym, subst}
use Rattle.span_core.proofs.HasLaws.{Has-get_or}
use Rattle.set_table.specs.Tabled.{IsStateSet, Tabled}
use Rattle.numbered_lists.specs.Numbered.{set_at}
use Rattle.set_table.proofs.table.Table.members.Goals as goal

pub returns-clause-states : goal.returns-clause-states
returns-clause-states c =
    let i = c.self.inside in
    let S = set_at i.store.lists.sets c.args.set in
    let within : c.args.set < length i.store.lists.sets = subst (λ (t : Tabled). c.args.set < length t.sets) (sym c.self.view_is) c.requires in
    let states : IsStateSet i.automaton.now.graph S = c.self.invariant.held.states S (Has-get_or i.store.lists.sets c.args.set [] within) in
    subst (λ (t : Tabled). IsStateSet t.graph c.at.result.now) c.self.view_is (subst (IsStateSet i.automaton.now.graph) (sym c.at.ensures) states)
