use Rattle.std.proofs.Common.{◌<◌, length, refl, ◌∙◌, arith, append-nil}
use Rattle.std.proofs.lemmas.Option.{slice_get_read}
use Rattle.cell_text.specs.Cells.{ends_by}
use Rattle.row_writer.proofs.Keeping.{cells_next, no_heads, room_next, same_heads}
use Rattle.row_writer.proofs.Fields.{all_at}
use Rattle.row_writer.proofs.cells.put_fields.Goals as goal

pub put_kept-end-requires-clause-inside : goal.put_kept-end-requires-clause-inside
put_kept-end-requires-clause-inside c =
    all_at (ends_by (length c.args.doc.now)) c.args.spans.now c.loop-k.k c.index-spans-k.result
    (slice_get_read c.args.spans.now (length c.args.spans.now) c.loop-k.k c.index-spans-k.result refl (omega arith) c.index-spans-k.is) c.requires.inside

pub put_kept-end-requires-clause-room : goal.put_kept-end-requires-clause-room
put_kept-end-requires-clause-room c =
    let step = room_next c.args.texts c.loop-k.fields c.args.spans.now c.loop-k.k c.index-fields-k.result c.loop-k.invariant.heads (omega arith) (omega arith) c.index-spans-k.is in
    omega (arith, step)

pub loop-k-preserved : goal.loop-k-preserved
loop-k-preserved c =
    let k = c.loop-k.k in
    let fields = c.loop-k.fields in
    let spans = c.args.spans.now in
    let field = c.index-fields-k.result in
    let same = c.loop-k.invariant.heads in
    let l : k < length spans = omega arith in
    let n : k < length fields = omega arith in
    let step = room_next c.args.texts fields spans k field same n l c.index-spans-k.is in
    record {
      heads = same_heads fields k field c.put_kept-end.new.field n c.put_kept-end.ensures.head ∙ same;
      written = cells_next c.args.doc.now c.args.texts _ fields spans k field same n l c.index-spans-k.is c.put_kept-end.ensures.text c.loop-k.invariant.written;
      room = omega (arith, step);
    }

pub returns-clause-end : goal.returns-clause-end
returns-clause-end c = rw (no_heads c.args.fields.now c.loop-k.k (omega arith)) at c.loop-k.invariant.room

pub returns-clause-text : goal.returns-clause-text
returns-clause-text c = rw (no_heads c.args.fields.now c.loop-k.k (omega arith), append-nil) at c.loop-k.invariant.written
