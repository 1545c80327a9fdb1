use Rattle.std.proofs.Common.{ap}
use Rattle.set_table.specs.Tabled.{Tabled}
use Rattle.one_pass.proofs.known_table.KnownTable.new.Goals as goal

pub invariant_of-result : goal.invariant_of-result
invariant_of-result g c = (ap (λ (t : Tabled). t.limit) c.in-Ok.ensures.ok, c.new-in-Ok.ensures c.in-Ok.table)
