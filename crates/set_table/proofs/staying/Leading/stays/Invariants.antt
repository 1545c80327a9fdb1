use Rattle.set_table.proofs.StayingLaws.{AreMet}
use Rattle.set_table.proofs.staying.Leading.stays.Given as goal

abbrev pub invariant-loop-bytes : goal.invariant-loop-bytes
invariant-loop-bytes l = AreMet l.self.to_members.items l.bytes-index l.stays
