use Rattle.std.proofs.Common.{◌<◌, ◌≤◌, ℕ, List, Option, Some, false, length, take, set, get_or, sym, ap, ap₂, ◌∙◌, arith, length-set}
use Rattle.std.specs.List.{list_all}
use Rattle.std.proofs.lemmas.List.{length-take-le, set-set}
use Rattle.std.proofs.lemmas.Option.{slice_get-get_or, slice_get_within}
use Rattle.span_core.specs.declared.span.Span.{Span}
use Rattle.span_core.proofs.HasLaws.{Has-slice_get}
use Rattle.spanner_model.specs.Answers.{SpanRow}
use Rattle.enumerator.specs.Ends.{row_to}
use Rattle.cell_text.specs.Cells.{ends_by}
use Rattle.row_writer.specs.Kept.{Line, kept_text, line_room}
use Rattle.row_writer.proofs.LineParts.{room_bare}
use Rattle.rematch_program.proofs.EndLines.{end_from, ends_next, front_to, inside_to, room_to, take_set}
use Rattle.rematch_program.proofs.Gathers.{so_far_more, so_far_part}
use Rattle.rematch_program.proofs.gather.Gather.add_each.Goals as goal

pub slice_bounds-row-end : goal.slice_bounds-row-end
slice_bounds-row-end g c = omega (arith, c.requires.room, room_bare c.args.line.now.heads c.args.of.now.spans.now c.requires.lengths)

pub slice_bounds-copy_from_slice-end : goal.slice_bounds-copy_from_slice-end
slice_bounds-copy_from_slice-end g c =
    let few : length c.args.of.now.spans.now ≤ 32 = omega (arith, c.requires.room, room_bare c.args.line.now.heads c.args.of.now.spans.now c.requires.lengths) in
    sym (length-take-le (length c.args.of.now.spans.now) _ few)

pub copy_from_slice-requires : goal.copy_from_slice-requires
copy_from_slice-requires g c =
    let few : length c.args.of.now.spans.now ≤ 32 = omega (arith, c.requires.room, room_bare c.args.line.now.heads c.args.of.now.spans.now c.requires.lengths) in
    length-take-le (length c.args.of.now.spans.now) _ few

pub new-requires : goal.new-requires
new-requires g c = end_from c.args.of.now.span.start c.args.of.now.ends.now c.loop-end.end-index c.requires.from c.loop-end-test.true

pub bounds-row-of : goal.bounds-row-of
bounds-row-of g c =
    let within = slice_get_within c.args.of.now.spans.now c.args.of.now.place (Some c.args.of.now.span) c.requires.span in
    omega (arith, within, c.requires.room, room_bare c.args.line.now.heads c.args.of.now.spans.now c.requires.lengths)

pub offset_bounds-row-of : goal.offset_bounds-row-of
offset_bounds-row-of g c =
    let within = slice_get_within c.args.of.now.spans.now c.args.of.now.place (Some c.args.of.now.span) c.requires.span in
    let few : c.args.of.now.place < 32 = omega (arith, within, c.requires.room, room_bare c.args.line.now.heads c.args.of.now.spans.now c.requires.lengths) in
    omega (arith, few)

pub add_row-requires-clause-inside : goal.add_row-requires-clause-inside
add_row-requires-clause-inside g c =
    let of = c.args.of.now in
    let i = c.loop-end.end-index in
    let at = get_or of.ends.now i 0 in
    let spans = of.spans.now in
    let n = length of.document.now in
    let b = c.new.result in
    let has = c.requires.each at (Has-slice_get of.ends.now i at (slice_get-get_or of.ends.now i 0 c.loop-end-test.true)) in
    ap (list_all (ends_by n)) (front_to spans of.place of.span c.requires.span b at c.new.ensures.start c.new.ensures.end c.loop-end.row c.loop-end.invariant.row)
    ∙ inside_to spans of.place of.span c.requires.span b at c.new.ensures.start c.new.ensures.end n has c.requires.inside

pub add_row-requires-clause-room : goal.add_row-requires-clause-room
add_row-requires-clause-room g c =
    let of = c.args.of.now in
    let at = get_or of.ends.now c.loop-end.end-index 0 in
    let front = front_to of.spans.now of.place of.span c.requires.span c.new.result at c.new.ensures.start c.new.ensures.end c.loop-end.row c.loop-end.invariant.row in
    let same = ap₂ (λ (l : Line) (row : SpanRow). line_room false l.heads row) c.loop-end.invariant.line front ∙ room_to c.args.line.now.heads of.spans.now of.place at c.requires.lengths in
    omega (arith, same, c.requires.room)

pub returns-in-Err-clause-part : goal.returns-in-Err-clause-part
returns-in-Err-clause-part g c =
    let of = c.args.of.now in
    let kept = c.args.line.now in
    let at = get_or of.ends.now c.loop-end.end-index 0 in
    let front = front_to of.spans.now of.place of.span c.requires.span c.new.result at c.new.ensures.start c.new.ensures.end c.loop-end.row c.loop-end.invariant.row in
    let text : ℕ → List ℕ = λ end. kept_text kept (row_to of.spans.now of.place end) of.document.now false in
    let line = ap₂ (λ (l : Line) (row : SpanRow). kept_text l row of.document.now false) c.loop-end.invariant.line front in
    so_far_part (g.O.Sink.told c.args.out.now) (g.O.Sink.told c.loop-end.out) (g.O.Sink.told c.add_row.new.out) c.loop-end.self (text at) _ _ _
    c.loop-end.invariant.so_far (ends_next text of.ends.now c.loop-end.end-index c.loop-end-test.true) (rw (← line) c.in-Err.ensures.part)

pub loop-end-preserved : goal.loop-end-preserved
loop-end-preserved g c =
    let of = c.args.of.now in
    let kept = c.args.line.now in
    let at = get_or of.ends.now c.loop-end.end-index 0 in
    let inv = c.loop-end.invariant in
    let row = c.loop-end.row in
    let front = front_to of.spans.now of.place of.span c.requires.span c.new.result at c.new.ensures.start c.new.ensures.end row inv.row in
    let text : ℕ → List ℕ = λ end. kept_text kept (row_to of.spans.now of.place end) of.document.now false in
    let line = ap₂ (λ (l : Line) (row : SpanRow). kept_text l row of.document.now false) inv.line front in
    record {
      line = c.add_row.ensures.line ∙ inv.line;
      long = length-set row of.place (Some c.new.result) ∙ inv.long;
      row = λ (x : Option Span).
          ap (λ (xs : SpanRow). set xs of.place x) (take_set (length of.spans.now) row of.place (Some c.new.result))
          ∙ set-set (take (length of.spans.now) row) of.place (Some c.new.result) x ∙ inv.row x;
      so_far = so_far_more (g.O.Sink.told c.args.out.now) (g.O.Sink.told c.loop-end.out) (g.O.Sink.told c.add_row.new.out) c.loop-end.self c.add_row.new.self (text at) _ _ _
          inv.so_far (ends_next text of.ends.now c.loop-end.end-index c.loop-end-test.true) (rw (← line) c.in_default.ensures.ok);
      later = omega (arith, inv.later, c.add_row.ensures.later);
    }
