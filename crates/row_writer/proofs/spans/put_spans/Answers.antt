use Rattle.std.proofs.Common.{take, length, arith}
use Rattle.cell_text.specs.Cells.{ends_by}
use Rattle.row_writer.specs.Lines.{spans_field}
use Rattle.row_writer.proofs.Fields.{all_at, field_more, spans_step, room_step}
use Rattle.row_writer.proofs.spans.put_spans.Goals as goal

pub put_field-end-requires-clause-inside : goal.put_field-end-requires-clause-inside
put_field-end-requires-clause-inside c = all_at (ends_by (length c.args.doc.now)) c.args.row.now 0 c.at-2.result c.at-2.ensures c.requires.inside

pub put_field-end-requires-clause-room : goal.put_field-end-requires-clause-room
put_field-end-requires-clause-room c = omega (arith, c.requires.room, room_step c.args.texts c.args.row.now 0 c.at-2.result c.at-2.ensures)

pub put_field-end-requires-in-loop-k-clause-inside : goal.put_field-end-requires-in-loop-k-clause-inside
put_field-end-requires-in-loop-k-clause-inside c =
    all_at (ends_by (length c.args.doc.now)) c.args.row.now c.loop-k.k c.at-in-loop-k-2.result c.at-in-loop-k-2.ensures c.requires.inside

pub put_field-end-requires-in-loop-k-clause-room : goal.put_field-end-requires-in-loop-k-clause-room
put_field-end-requires-in-loop-k-clause-room c =
    omega (arith, c.loop-k.invariant.room, c.put_byte-end.ensures.end, room_step c.args.texts c.args.row.now c.loop-k.k c.at-in-loop-k-2.result c.at-in-loop-k-2.ensures)

pub loop-k-preserved : goal.loop-k-preserved
loop-k-preserved c =
    let name = c.at-in-loop-k.result.now in
    let span = c.at-in-loop-k-2.result in
    record {
      written = field_more 32 (take c.loop-k.end c.loop-k.buffer) (take c.put_byte-end.result c.put_byte-end.new.buffer)
          (take c.put_field-end-in-loop-k.result c.put_field-end-in-loop-k.new.buffer) (spans_field c.args.doc.now c.args.texts name span) _ _ _
          c.put_byte-end.ensures.text c.put_field-end-in-loop-k.ensures.text
          (spans_step c.args.doc.now c.args.texts c.args.vars.now c.args.row.now c.loop-k.k name span c.at-in-loop-k.ensures.value c.at-in-loop-k-2.ensures) c.loop-k.invariant.written;
      room = omega (arith, c.loop-k.invariant.room, c.put_byte-end.ensures.end, c.put_field-end-in-loop-k.ensures.end, room_step c.args.texts c.args.row.now c.loop-k.k span c.at-in-loop-k-2.ensures);
    }
