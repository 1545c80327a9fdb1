use Rattle.std.proofs.Common.{take, length, arith}
use Rattle.cell_text.specs.Cells.{ends_by}
use Rattle.row_writer.specs.Lines.{shown}
use Rattle.row_writer.proofs.Fields.{all_at, field_more, cells_step, room_step}
use Rattle.row_writer.proofs.table.put_cells.Goals as goal

pub put_shown-end-requires-clause-inside : goal.put_shown-end-requires-clause-inside
put_shown-end-requires-clause-inside c = all_at (ends_by (length c.args.doc.now)) c.args.row.now 0 c.at.result c.at.ensures c.requires.inside

pub put_shown-end-requires-clause-room : goal.put_shown-end-requires-clause-room
put_shown-end-requires-clause-room c = omega (arith, c.requires.room, room_step c.args.texts c.args.row.now 0 c.at.result c.at.ensures)

pub put_shown-end-requires-in-loop-k-clause-inside : goal.put_shown-end-requires-in-loop-k-clause-inside
put_shown-end-requires-in-loop-k-clause-inside c =
    all_at (ends_by (length c.args.doc.now)) c.args.row.now c.loop-k.k c.at-in-loop-k.result c.at-in-loop-k.ensures c.requires.inside

pub put_shown-end-requires-in-loop-k-clause-room : goal.put_shown-end-requires-in-loop-k-clause-room
put_shown-end-requires-in-loop-k-clause-room c =
    omega (arith, c.loop-k.invariant.room, c.put_byte-end.ensures.end, room_step c.args.texts c.args.row.now c.loop-k.k c.at-in-loop-k.result c.at-in-loop-k.ensures)

pub loop-k-preserved : goal.loop-k-preserved
loop-k-preserved c =
    let span = c.at-in-loop-k.result in
    record {
      written = field_more 9 (take c.loop-k.end c.loop-k.buffer) (take c.put_byte-end.result c.put_byte-end.new.buffer)
          (take c.put_shown-end-in-loop-k.result c.put_shown-end-in-loop-k.new.buffer) (shown c.args.doc.now c.args.texts span) _ _ _
          c.put_byte-end.ensures.text c.put_shown-end-in-loop-k.ensures.text
          (cells_step c.args.doc.now c.args.texts c.args.row.now c.loop-k.k span c.at-in-loop-k.ensures) c.loop-k.invariant.written;
      room = omega (arith, c.loop-k.invariant.room, c.put_byte-end.ensures.end, c.put_shown-end-in-loop-k.ensures.end, room_step c.args.texts c.args.row.now c.loop-k.k span c.at-in-loop-k.ensures);
    }
