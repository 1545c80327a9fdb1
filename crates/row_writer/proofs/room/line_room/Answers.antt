use Rattle.std.proofs.Common.{arith}
use Rattle.row_writer.proofs.Fields.{room_step}
use Rattle.row_writer.proofs.room.line_room.Goals as goal

pub loop-k-preserved : goal.loop-k-preserved
loop-k-preserved c =
    let step = room_step c.args.texts c.args.row.now c.loop-k.k c.at.result c.at.ensures in
    record {
      counted = omega (arith, c.loop-k.invariant.counted, c.cell_room.ensures.value, step);
      few = omega (arith, c.loop-k.invariant.few, c.cell_room.ensures.few);
    }
