use Rattle.std.proofs.Common.{sym, subst, arith}
use Rattle.automaton_reading.specs.Reading.{byte_read}
use Rattle.set_table.specs.Tabled.{Tabled, look_up}
use Rattle.set_table.proofs.OnceLaws.{once_is_same}
use Rattle.segment_filter.specs.Dense.{GoesTo, target_told}
use Rattle.segment_filter.specs.Next.{IsNext}
use Rattle.segment_filter.proofs.dense.DenseTable.next.Goals as goal

pub returns-clause-ok : goal.returns-clause-ok
returns-clause-ok g c =
    let t = c.args.self.now in
    let goes = rw c.self.view_is at (c.entry-entry.ensures c.self.inside.table c.self.invariant.1 (omega arith)) in
    (once_is_same t (look_up t c.args.set (byte_read c.args.byte)) goes.asked, subst (IsNext t c.args.set c.args.byte t.sets) (sym c.target_of.ensures) goes.next)
