use Rattle.std.proofs.Common.{◌≡◌, ◌+◌, ◌*◌, ◌<◌, ◌≤◌, length, get_or, ap, ◌∙◌, arith, append_assoc, Option, Some, get_or-set_same}
use Rattle.std.proofs.lemmas.Bool.{leb-true}
use Rattle.std.proofs.lemmas.List.{length-take}
use Rattle.span_core.specs.declared.span.Span.{Span}
use Rattle.cell_text.specs.Cells.{ends_by}
use Rattle.row_writer.specs.Kept.{Field, Head}
use Rattle.row_writer.proofs.Fields.{all_at}
use Rattle.row_writer.proofs.Keeping.{heads_next, same_heads}
use Rattle.row_writer.proofs.LineParts.{all_front, back_parts, front_parts, no_quote, parts_written}
use Rattle.row_writer.proofs.parted.put_parted.Goals as goal

pub put_cells-end-requires-clause-inside : goal.put_cells-end-requires-clause-inside
put_cells-end-requires-clause-inside c = all_front (ends_by (length c.args.doc.now)) c.args.spans.now c.args.beside.place c.requires.inside

pub put_cells-end-requires-clause-room : goal.put_cells-end-requires-clause-room
put_cells-end-requires-clause-room c = omega (arith, length-take {A = Option Span})

pub put_start-front-requires : goal.put_start-front-requires
put_start-front-requires c = omega (arith, length-take {A = Option Span})

pub put_number-number-requires : goal.put_number-number-requires
put_number-number-requires c = omega (arith, length-take {A = Option Span})

pub put_rest-end-requires-clause-inside : goal.put_rest-end-requires-clause-inside
put_rest-end-requires-clause-inside c =
    leb-true c.args.beside.span.end (length c.args.doc.now)
    (all_at (ends_by (length c.args.doc.now)) c.args.spans.now c.args.beside.place (Some c.args.beside.span) c.requires.span c.requires.inside)

pub put_rest-end-requires-clause-room : goal.put_rest-end-requires-clause-room
put_rest-end-requires-clause-room c = omega (arith, length-take {A = Option Span}, no_quote)

pub put_cells-end-requires-2-clause-room : goal.put_cells-end-requires-2-clause-room
put_cells-end-requires-2-clause-room c = omega (arith, length-take {A = Option Span}, no_quote)

pub returns : goal.returns
returns c =
    let place = c.args.beside.place in
    let span = c.args.beside.span in
    let spans = c.args.spans.now in
    let doc = c.args.doc.now in
    let fields = c.put_cells-end.new.fields in
    let field = c.index-fields-place.result in
    let n : place < length fields = omega arith in
    let left = heads_next fields place field c.put_cells-end.ensures.heads n in
    let others = same_heads fields place field c.put_start-front.new.self n c.put_start-front.ensures.head ∙ c.put_cells-end.ensures.heads in
    let style : c.style.result ≡ (get_or fields place field).head.style =
    c.style.ensures ∙ ap (λ (f : Field). f.head.style) (get_or-set_same fields place c.put_start-front.new.self c.index-fields-place-2.result n)
    ∙ ap (λ (h : Head). h.style) c.put_start-front.ensures.head in
    let end : c.put_cells-end-2.result ≤ c.args.at + 64 * length spans = omega (arith, length-take {A = Option Span}, no_quote) in
    let t = parts_written _ _ _ c.put_number-number.ensures.text (rw style at c.put_rest-end.ensures.text) (rw others at c.put_cells-end-2.ensures.text)
    (omega (arith, length-take {A = Option Span}, no_quote)) (omega (arith, length-take {A = Option Span}, no_quote)) (omega (arith, length-take {A = Option Span}, no_quote)) in
    record {
      heads = c.put_cells-end-2.ensures.heads ∙ others;
      end = end;
      between = t.between;
      behind = t.behind;
      front = t.front ∙ c.put_start-front.ensures.text ∙ rw (c.put_cells-end.ensures.text, append_assoc, front_parts doc _ spans place span.start _ _ left c.requires.within);
      number = t.number;
      back = t.back ∙ rw (back_parts doc _ spans place span _ _ left c.requires.span);
    }
