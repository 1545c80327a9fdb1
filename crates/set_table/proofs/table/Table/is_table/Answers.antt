use Rattle.std.proofs.Common.{subst}
use Rattle.set_table.specs.Tabled.{IsTabled}
use Rattle.set_table.proofs.HeldLaws.{is_tabled}
use Rattle.set_table.proofs.table.Table.is_table.Goals as goal

pub returns : goal.returns
returns c =
    let i = c.self.inside in
    subst IsTabled c.self.view_is (is_tabled i.automaton.now i.limit i.weight i.store c.self.invariant)
