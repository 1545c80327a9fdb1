use Rattle.set_table.proofs.StayLaws.{HaveEmpty}
use Rattle.set_table.proofs.store.put_empty.Given as goal

abbrev pub invariant-loop : goal.invariant-loop
invariant-loop l = HaveEmpty l.fn.stays.items l.stays.items l.counter
