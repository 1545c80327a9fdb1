-- A page that is written line by line.
use Rattle.std.proofs.Common.{◌≡◌, ℕ, Bool, false, List, [], ◌∷◌, ◌++◌, Option, None, get_or, length, refl, sym, ap, ap₂, ◌∙◌, subst, length-set}
use Rattle.std.proofs.lemmas.List.Concat.{flat_map-cons}
use Rattle.std.specs.Prelude.{nat_lt}
use Rattle.command_line.specs.RequestView.{RequestView}
use Rattle.enumerator.specs.Ends.{row_to, rows_to, span_to}
use Rattle.rm_outside.specs.Change.{change, AddsPart}
use Rattle.rm_outside.specs.Flow.{Flow}
use Rattle.row_writer.specs.Kept.{Line, kept_text}
use Rattle.spanner_model.specs.Captures.{VarName}
use Rattle.spanner_model.specs.Answers.{SpanRow}
use Rattle.spanner_engine.specs.Left.{RowsLeft, Source}
use Rattle.rematch_program.specs.Kept.{ends_text, kept_of}
use Rattle.rematch_program.specs.Pages.{FitsIf, FitsPage, cursor_given, last_note, page_text, row_text}
use Rattle.rematch_program.specs.Taking.{page_rows, whole_text}
use Rattle.rematch_program.specs.Work.{Passes, SoFar}
use Rattle.rematch_program.specs.Written.{EndsPage, Fits, IsOver, Page, line_of, lines_of, page_begun, with_waiting}
use Rattle.rematch_program.proofs.Gathers.{so_far_more, so_far_part}
use Rattle.rematch_program.proofs.KeptLines.{kept_row, kept_width}
use Rattle.rematch_program.proofs.PageSteps.{lines_next, note_is}

-- ---- what is kept of its lines writes them

module _ (p : Page) {kept : Line} (is : kept ≡ kept_of p.form p.names) {row : SpanRow} (fits : Fits p row) where
  pub as_wide : length row ≡ length kept.heads
  as_wide = fits.lengths ∙ sym (kept_width p.form p.names kept is)

  pub row_line : kept_text kept row p.document p.texts ≡ line_of p row
  row_line = kept_row p.form p.texts p.names p.document row kept is fits.lengths

  -- the lines of rows that differ in an end
  pub ends_lines : p.texts ≡ false → (place : ℕ) (ends : List ℕ) → ends_text kept row place p.document ends ≡ lines_of p (rows_to row place ends)
  ends_lines bare place [] = refl
  ends_lines bare place (at ∷ ends) =
      let wide : length (row_to row place at) ≡ length p.names = length-set row place (span_to (get_or row place None) at) ∙ fits.lengths in
      let line : kept_text kept (row_to row place at) p.document false ≡ line_of p (row_to row place at) =
      kept_row p.form false p.names p.document (row_to row place at) kept is wide
      ∙ ap (λ (texts : Bool). row_text p.form texts p.names p.document (row_to row place at)) (sym bare) in
      flat_map-cons (λ (end : ℕ). kept_text kept (row_to row place end) p.document false) at ends
      ∙ ap₂ (λ (xs ys : List ℕ). xs ++ ys) line (ends_lines bare place ends)
      ∙ sym (flat_map-cons (line_of p) (row_to row place at) (rows_to row place ends))

-- ---- it begins

-- it is over what its columns and its document were taken from
pub begun_over : (a : RequestView) (s : Source) {p : Page} {names : List VarName} {document : List ℕ}
    → p ≡ page_begun a names document → names ≡ s.names → document ≡ s.document → IsOver p s
begun_over a s is columns bytes = record {
  names = ap (λ (q : Page). q.names) is ∙ columns;
  document = ap (λ (q : Page). q.document) is ∙ bytes;
}

-- what waits and the lines of the rows are its text
pub begun_text : (judges : ℕ → List ℕ → Bool) (r : RowsLeft) (a : RequestView) {p : Page} {names : List VarName} {document : List ℕ}
    → p ≡ page_begun a names document → names ≡ r.source.names → document ≡ r.source.document
    → p.waiting ++ lines_of p (page_rows judges r a.limit) ≡ whole_text judges r a
begun_text judges r a {document = document} is columns bytes =
    let rows = page_rows judges r a.limit in
    ap (λ (q : Page). q.waiting ++ lines_of q rows) is
    ∙ ap (λ (ns : List VarName). page_text a.form a.texts ns document rows) columns
    ∙ ap (λ (d : List ℕ). page_text a.form a.texts r.source.names d rows) bytes

-- ---- its note

module _ (s : Source) (vars : List VarName) (n : ℕ) (columns : vars ≡ s.names) (bytes : n ≡ length s.document) (last : Option SpanRow) where
  pub note_fits : {p : Page} → IsOver p s → FitsIf (length p.names) (length p.document) last → FitsIf (length vars) n last
  note_fits {p} over fits =
      let wide : FitsIf (length vars) (length p.document) last = rw (← over.names ∙ sym columns) fits in
      rw (← ap length over.document ∙ sym bytes) wide

  pub note_told : (given : Option (List ℕ)) (rows coming : List SpanRow) (more : Bool) → EndsPage rows coming last more →
      last_note vars n (cursor_given vars n last given) [] more ≡ last_note s.names (length s.document) given rows (nat_lt (length rows) (length coming))
  note_told given rows coming more ends =
      note_is vars n given rows coming last more ends
      ∙ ap (λ (names : List VarName). last_note names n given rows (nat_lt (length rows) (length coming))) columns
      ∙ ap (λ (k : ℕ). last_note s.names k given rows (nat_lt (length rows) (length coming))) bytes

-- ---- one row more

-- first is the page as it was at first, and before as it is before the line is put
module _ (first : Page) {before : Page} (same : before ≡ with_waiting before.waiting first) {row spans : SpanRow} (shown : spans ≡ row) where
  pub fits_now : {s : Source} → IsOver first s → FitsPage (length s.names) (length s.document) row → Fits before spans
  fits_now {s} over fits =
      let columns : FitsPage (length first.names) (length s.document) row = rw over.names fits in
      let here : Fits first row = rw over.document columns in
      rw same (subst (Fits first) (sym shown) here)

  line_now : line_of before spans ≡ line_of first row
  line_now = ap (λ (p : Page). line_of p spans) same ∙ ap (line_of first) shown

  module _ {old mid : Flow} (new : Flow) {rows rest : List SpanRow} {whole : List ℕ} (front : rows ≡ row ∷ rest)
      (so_far : SoFar (change old mid) before.waiting (lines_of first rows) whole) where
    pub line_passed : {waiting : List ℕ} → Passes before.waiting (line_of before spans) waiting (change mid new) → SoFar (change old new) waiting (lines_of first rest) whole
    line_passed {waiting} passes =
        so_far_more old mid new before.waiting waiting (line_of first row) (lines_of first rows) (lines_of first rest) whole so_far (lines_next (line_of first) rows rest row front)
        (rw (← line_now) passes)

    pub line_cut : AddsPart (change mid new) (before.waiting ++ line_of before spans) → AddsPart (change old new) whole
    line_cut part =
        so_far_part old mid new before.waiting (line_of first row) (lines_of first rows) (lines_of first rest) whole so_far (lines_next (line_of first) rows rest row front)
        (rw (← line_now) part)

-- a page of which other bytes wait is over the same, and the same rows fit it
pub over_now : (first : Page) {now : Page} {s t : Source} → now ≡ with_waiting now.waiting first → t ≡ s → IsOver first s → IsOver now t
over_now first same source over = record {
  names = ap (λ (p : Page). p.names) same ∙ over.names ∙ ap (λ (u : Source). u.names) (sym source);
  document = ap (λ (p : Page). p.document) same ∙ over.document ∙ ap (λ (u : Source). u.document) (sym source);
}

pub fits_then : (first : Page) {now : Page} {row : SpanRow} → now ≡ with_waiting now.waiting first → Fits now row → Fits first row
fits_then first {now} {row} same fits = subst (λ (p : Page). Fits p row) same fits

-- a page of which other bytes wait, twice
pub still_same : (first : Page) {before after : Page} → before ≡ with_waiting before.waiting first → after ≡ with_waiting after.waiting before → after ≡ with_waiting after.waiting first
still_same first {after = after} same then_ = then_ ∙ ap (with_waiting after.waiting) same
