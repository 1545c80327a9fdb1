use Rattle.std.proofs.Common.{◌<◌, length}
use Rattle.automaton_reading.specs.Reading.{byte_read}
use Rattle.set_table.specs.Tabled.{Tabled, look_up}
use Rattle.segment_filter.specs.Dense.{AreTold}
use Rattle.segment_filter.proofs.DenseLaws.{goes_there, told_still}
use Rattle.segment_filter.proofs.dense.DenseTable.ask.Goals as goal

pub invariant_of-self : goal.invariant_of-self
invariant_of-self g c = (
  c.in-Err.ensures.tabled,
  rw c.in-Err.ensures.err c.self.invariant.1,
)

pub invariant_of-self-2 : goal.invariant_of-self-2
invariant_of-self-2 g c =
    let old = c.self.inside.table in
    let new = c.asked_target.new.table in
    let ok = c.in-Ok.ensures.ok in
    let given = rw (← c.self.view_is) at c.requires in (
      c.in-Ok.ensures.tabled,
      c.enter.ensures new (c.make_room.ensures new (told_still old new (look_up old c.args.set (byte_read c.args.byte)) c.self.inside.told.entries.items ok.0 c.self.invariant.1))
          (goes_there old new c.args.set c.args.byte c.in-Ok.to given ok.0 ok.1),
    )
