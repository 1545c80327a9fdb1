use Rattle.std.proofs.Common.{◌≡◌, ◌<◌, ◌++◌, ℕ, List, [], take, drop, length, get_or, refl, sym, ap, ◌∙◌, arith, append-nil, Option, false}
use Rattle.std.proofs.lemmas.List.{drop_all}
use Rattle.std.proofs.lemmas.Option.{slice_get_read}
use Rattle.span_core.specs.declared.span.Span.{Span}
use Rattle.cell_text.specs.Cells.{ends_by}
use Rattle.row_writer.specs.Kept.{cells_text, heads_of}
use Rattle.row_writer.proofs.Fields.{all_at}
use Rattle.row_writer.proofs.Keeping.{cells_next, same_heads}
use Rattle.row_writer.proofs.LineParts.{no_cells, no_quote}
use Rattle.row_writer.proofs.parted.put_cells.Goals as goal

pub put_kept-end-requires-clause-inside : goal.put_kept-end-requires-clause-inside
put_kept-end-requires-clause-inside c =
    let span = c.index-spans-k.result in
    let l : c.loop-k.k < length c.args.spans.now = omega arith in
    let read = slice_get_read c.args.spans.now (length c.args.spans.now) c.loop-k.k span refl l c.index-spans-k.is in
    all_at (ends_by (length c.args.doc.now)) c.args.spans.now c.loop-k.k span read c.requires.inside

pub put_kept-end-requires-clause-room : goal.put_kept-end-requires-clause-room
put_kept-end-requires-clause-room c =
    let head = (get_or c.loop-k.fields c.loop-k.k c.index-fields-k.result).head in
    omega (arith, c.loop-k.invariant.room, c.requires.room, c.loop-k.auto.buffer, no_quote head.style c.index-spans-k.result)

pub loop-k-preserved : goal.loop-k-preserved
loop-k-preserved c =
    let k = c.loop-k.k in
    let fields = c.loop-k.fields in
    let field = c.index-fields-k.result in
    let same = c.loop-k.invariant.heads in
    let n : k < length fields = omega arith in
    record {
      heads = same_heads fields k field c.put_kept-end.new.field n c.put_kept-end.ensures.head ∙ same;
      written = cells_next c.args.doc.now false _ fields c.args.spans.now k field same n (omega arith) c.index-spans-k.is c.put_kept-end.ensures.text c.loop-k.invariant.written;
      room = omega (arith, no_quote (get_or fields k field).head.style c.index-spans-k.result);
    }

pub returns-clause-text : goal.returns-clause-text
returns-clause-text c =
    let k = c.loop-k.k in
    let spans = c.args.spans.now in
    let left = drop k (heads_of c.args.fields.now) in
    let done = take c.loop-k.end c.loop-k.buffer in
    let none : drop k spans ≡ [] = drop_all k spans (omega arith) in
    sym (append-nil done)
    ∙ sym (ap (λ (xs : List ℕ). done ++ xs) (ap (λ (row : List (Option Span)). cells_text c.args.doc.now false left row) none ∙ no_cells c.args.doc.now left))
    ∙ c.loop-k.invariant.written
