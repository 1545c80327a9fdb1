use Rattle.std.proofs.Common.{◌≡◌, ◌≤◌, ◌++◌, ℕ, List, length, take, drop, sym, ap, ap₂, ◌∙◌, arith, subst, Some}
use Rattle.std.specs.Fmt.{decimal}
use Rattle.std.proofs.lemmas.Option.{slice_get_within}
use Rattle.row_writer.specs.declared.style.Style.{Style}
use Rattle.row_writer.specs.Kept.{Field, Head, Line, heads_of, line_end, line_with}
use Rattle.row_writer.specs.Open.{IsRun, before_end, behind_end}
use Rattle.row_writer.proofs.Keeping.{length_heads, rises}
use Rattle.row_writer.proofs.LineParts.{line_parted, room_bare, run_begun, text_opened, written_back}
use Rattle.row_writer.proofs.kept.KeptLine.put_first.Goals as goal

pub put_parted-parts-requires-clause-lengths : goal.put_parted-parts-requires-clause-lengths
put_parted-parts-requires-clause-lengths c =
    c.requires.lengths ∙ ap (λ (l : Line). length l.heads) (sym c.self.view_is) ∙ length_heads c.self.inside.fields.items ∙ ap length (sym c.as_mut_slice.ensures.value)

pub put_parted-parts-requires-clause-within : goal.put_parted-parts-requires-clause-within
put_parted-parts-requires-clause-within c = slice_get_within c.args.spans.now c.args.beside.place (Some c.args.beside.span) c.requires.span

pub put_parted-parts-requires-clause-room : goal.put_parted-parts-requires-clause-room
put_parted-parts-requires-clause-room c = omega (arith, c.requires.room, room_bare c.args.self.now.heads c.args.spans.now c.requires.lengths)

pub put_line_end-end-requires : goal.put_line_end-end-requires
put_line_end-end-requires c = omega (arith, c.put_parted-parts.ensures.end, c.requires.room, room_bare c.args.self.now.heads c.args.spans.now c.requires.lengths)

pub open_line-self-inside-requires-clause-before : goal.open_line-self-inside-requires-clause-before
open_line-self-inside-requires-clause-before c = rises _ _ _ c.put_parted-parts.ensures.front (omega arith)

pub open_line-self-inside-requires-clause-behind : goal.open_line-self-inside-requires-clause-behind
open_line-self-inside-requires-clause-behind c =
    let low : c.put_parted-parts.result.end ≤ c.put_line_end-end.result =
    rises c.put_parted-parts.new.buffer _ _ c.put_line_end-end.ensures.text (omega (arith, room_bare c.args.self.now.heads c.args.spans.now c.requires.lengths)) in
    omega (arith, low)

pub open_line-self-inside-requires-clause-front : goal.open_line-self-inside-requires-clause-front
open_line-self-inside-requires-clause-front c = omega (arith, c.requires.room, room_bare c.args.self.now.heads c.args.spans.now c.requires.lengths)

pub open_line-self-inside-requires-clause-back : goal.open_line-self-inside-requires-clause-back
open_line-self-inside-requires-clause-back c =
    omega (arith, c.put_parted-parts.ensures.end, c.put_parted-parts.ensures.behind, c.requires.room, room_bare c.args.self.now.heads c.args.spans.now c.requires.lengths)

pub returns-clause-end : goal.returns-clause-end
returns-clause-end c = omega (arith, c.put_line_end-end.ensures.end, c.put_parted-parts.ensures.end, room_bare c.args.self.now.heads c.args.spans.now c.requires.lengths)

pub invariant_of-self : goal.invariant_of-self
invariant_of-self c =
    let spans = c.args.spans.now in
    let place = c.args.beside.place in
    let span = c.args.beside.span in
    let doc = c.args.doc.now in
    let fields = c.self.inside.fields.items in
    let style = c.self.inside.style in
    let new = c.put_parted-parts.new.fields in
    let heads = heads_of c.as_mut_slice.result.now in
    let same : heads_of c.as_mut_slice.result.now ≡ heads_of fields = ap heads_of c.as_mut_slice.ensures.value in
    let own : heads ≡ c.args.self.now.heads = same ∙ ap (λ (l : Line). l.heads) c.self.view_is in
    let back : take c.self.inside.fields.len (new ++ drop (length new) fields) ≡ new = written_back c.self.inside.fields.len new fields (omega arith) in
    let line : line_with style (heads_of (take c.self.inside.fields.len (new ++ drop (length new) fields))) ≡ c.args.self.now =
    ap (λ (fs : List Field). line_with style (heads_of fs)) back ∙ ap (λ (hs : List Head). line_with style hs) (c.put_parted-parts.ensures.heads ∙ same) ∙ c.self.view_is in
    let t = line_parted _ _ _ _ c.put_parted-parts.ensures.front c.put_parted-parts.ensures.number c.put_parted-parts.ensures.back c.put_line_end-end.ensures.text
    (omega arith) c.put_parted-parts.ensures.between c.put_parted-parts.ensures.behind (omega (arith, room_bare c.args.self.now.heads spans c.requires.lengths)) in
    subst (λ (l : Line). IsRun l c.copy_from_slice.new.self.items place c.open_line-self-inside.result) (sym line)
    (run_begun c.args.self.now spans c.copy_from_slice.new.self.items place doc span c.open_line-self-inside.result _ _ c.requires.lengths c.requires.span
    c.copy_from_slice.ensures.items c.open_line-self-inside.ensures
    (t.before ∙ ap (λ (hs : List Head). before_end doc hs spans place span.start) own)
    (t.behind ∙ ap₂ (λ (hs : List Head) (s : Style). behind_end doc hs spans place ++ line_end s) own (ap (λ (l : Line). l.style) c.self.view_is)))

pub returns-clause-text : goal.returns-clause-text
returns-clause-text c =
    let spans = c.args.spans.now in
    let place = c.args.beside.place in
    let span = c.args.beside.span in
    let doc = c.args.doc.now in
    let style = c.self.inside.style in
    let heads = heads_of c.as_mut_slice.result.now in
    let t = line_parted _ _ _ _ c.put_parted-parts.ensures.front c.put_parted-parts.ensures.number c.put_parted-parts.ensures.back c.put_line_end-end.ensures.text
    (omega arith) c.put_parted-parts.ensures.between c.put_parted-parts.ensures.behind (omega (arith, room_bare c.args.self.now.heads spans c.requires.lengths)) in
    let own : heads ≡ c.args.self.now.heads = ap heads_of c.as_mut_slice.ensures.value ∙ ap (λ (l : Line). l.heads) c.self.view_is in
    let b = take c.args.at c.args.buffer.now in
    t.whole
    ∙ ap₂ (λ (hs : List Head) (s : Style). b ++ (before_end doc hs spans place span.start ++ (decimal span.end ++ (behind_end doc hs spans place ++ line_end s)))) own
    (ap (λ (l : Line). l.style) c.self.view_is)
    ∙ ap (λ (xs : List ℕ). b ++ xs) (sym (text_opened c.args.self.now spans place doc span c.requires.lengths c.requires.span).0)
