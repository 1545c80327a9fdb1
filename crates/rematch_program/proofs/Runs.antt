-- Rows of a page that are taken many at once.
use Rattle.std.proofs.Common.{◌≡◌, ℕ, ◌+◌, ◌-◌, ◌*◌, ◌<◌, ◌≤◌, Bool, true, false, if◌then◌else◌, List, ◌∷◌, ◌++◌, length, Option, Some, sym, ap, ◌∙◌, subst, arith, append_assoc, length-append}
use Rattle.std.specs.Bool.{OnTrue}
use Rattle.std.proofs.lemmas.List.{length-map}
use Rattle.std.proofs.lemmas.List.Concat.{flat_map-append}
use Rattle.span_core.specs.Lists.{Has}
use Rattle.spanner_model.specs.Answers.{SpanRow, page_end}
use Rattle.enumerator.specs.Ends.{AreEnds, last_of, row_to, rows_to}
use Rattle.spanner_engine.specs.Fitting.{AllFit, FitsRow}
use Rattle.spanner_engine.specs.Left.{RowsLeft, Source, passing_over}
use Rattle.rm_outside.specs.Change.{change, AddsPart}
use Rattle.rm_outside.specs.Flow.{Flow}
use Rattle.rematch_program.specs.Pages.{first_rows}
use Rattle.rematch_program.specs.Taking.{HaveTaken, coming, page_rows}
use Rattle.rematch_program.specs.Work.{SoFar}
use Rattle.rematch_program.specs.Written.{Fits, IsOver, Page, lines_of, with_waiting}
use Rattle.rematch_program.proofs.EndRows.{end_append, ends_again, ends_fit, last_append, of_last, rows_again}
use Rattle.rematch_program.proofs.Gathers.{so_far_cut, so_far_on}
use Rattle.rematch_program.proofs.Inside.{fits_of}

-- rows of a source fit a page over it
pub fits_over : {p : Page} {s : Source} {row : SpanRow} → IsOver p s → FitsRow (length s.names) (length s.document) row → Fits p row
fits_over {row = row} over fits = rw (over.names, over.document) (fits_of _ _ row fits)

-- the row that is shown is the last of some rows of a source that fit it
module _ {p : Page} {s : Source} (over : IsOver p s) (row : SpanRow) {shown : SpanRow} (place : ℕ) (ends : List ℕ) (are : AreEnds row place ends)
    (fit : AllFit (length s.names) (length s.document) (rows_to row place ends)) (last : shown ≡ last_of row (rows_to row place ends)) where
  pub shown_fits : Fits p row → Fits p shown
  shown_fits here = subst (Fits p) (sym last) (of_last (Fits p) row (rows_to row place ends) here (λ r h. fits_over over (fit r h)))

  pub shown_ends : AreEnds shown place ends
  shown_ends = subst (λ (r : SpanRow). AreEnds r place ends) (sym last) (ends_again row place ends are)

  pub shown_rows : rows_to shown place ends ≡ rows_to row place ends
  shown_rows = ap (λ (r : SpanRow). rows_to r place ends) last ∙ rows_again row place ends are

  pub shown_within : (at : ℕ) → Has ends at → at ≤ length p.document
  shown_within at h = rw over.document (ends_fit _ _ row place ends are fit at h)

module _ (judges : ℕ → List ℕ → Bool) where
  -- the lines of a run of ends are the front of the lines of the page
  pub run_lines : (p : Page) (old new : RowsLeft) (limit left : Option ℕ) (place : ℕ) (ends : List ℕ) → new.source ≡ old.source
      → passing_over judges old.source old.rest ≡ rows_to old.row place ends ++ passing_over judges old.source new.rest
      → ((rows more : List SpanRow) → length rows ≡ length ends → first_rows limit (rows ++ more) ≡ rows ++ first_rows left more)
      → lines_of p (page_rows judges old limit) ≡ lines_of p (rows_to old.row place ends) ++ lines_of p (page_rows judges new left)
  run_lines p old new limit left place ends source next takes =
      let rows = rows_to old.row place ends in
      let then_ : coming judges old ≡ rows ++ coming judges new = next ∙ ap (λ (s : Source). rows ++ passing_over judges s new.rest) (sym source) in
      ap (λ (all : List SpanRow). lines_of p (first_rows limit all)) then_
      ∙ ap (lines_of p) (takes rows (coming judges new) (length-map ends (row_to old.row place)))
      ∙ flat_map-append _ rows (page_rows judges new left)

  -- some rows are taken, and then others
  pub taken_on : {old mid new : RowsLeft} {limit left more : Option ℕ} → HaveTaken judges old mid limit left → HaveTaken judges mid new left more
      → HaveTaken judges old new limit more
  taken_on {old} {mid} {new} {more = more} a b = record {
    taken = a.taken ++ b.taken;
    next = a.next ∙ ap (λ (rows : List SpanRow). a.taken ++ rows) b.next ∙ sym (append_assoc a.taken b.taken (coming judges new));
    within = a.within ∙ ap (λ (rows : List SpanRow). a.taken ++ rows) b.within ∙ sym (append_assoc a.taken b.taken (page_rows judges new more));
    row = b.row ∙ ap (λ (r : SpanRow). last_of r b.taken) a.row ∙ last_append old.row a.taken b.taken;
  }

  -- the lines of a page that was begun over a source, told of what waits now and of what is left now
  lines_now : (first mid : Page) (s : Source) (r : RowsLeft) (limit : Option ℕ) → mid ≡ with_waiting mid.waiting first → r.source ≡ s
      → lines_of mid (page_rows judges r limit) ≡ lines_of first (first_rows limit (passing_over judges s r.rest))
  lines_now first mid s r limit same source =
      ap (λ (p : Page). lines_of p (page_rows judges r limit)) same
      ∙ ap (λ (t : Source). lines_of first (first_rows limit (passing_over judges t r.rest))) source

  module _ (first mid : Page) (same : mid ≡ with_waiting mid.waiting first) (s : Source) (r : RowsLeft) (source : r.source ≡ s)
      {old told : Flow} (new : Flow) (limit : Option ℕ) {whole : List ℕ}
      (so_far : SoFar (change old told) mid.waiting (lines_of first (first_rows limit (passing_over judges s r.rest))) whole) where
    pub runs_passed : (r' : RowsLeft) (limit' : Option ℕ) {waiting : List ℕ} → r'.source ≡ s
        → SoFar (change told new) waiting (lines_of mid (page_rows judges r' limit')) (mid.waiting ++ lines_of mid (page_rows judges r limit))
        → SoFar (change old new) waiting (lines_of first (first_rows limit' (passing_over judges s r'.rest))) whole
    runs_passed r' limit' source' passes = so_far_on new (lines_now first mid s r limit same source) (lines_now first mid s r' limit' same source') so_far passes

    pub runs_cut : AddsPart (change told new) (mid.waiting ++ lines_of mid (page_rows judges r limit)) → AddsPart (change old new) whole
    runs_cut part = so_far_cut new (lines_now first mid s r limit same source) so_far part

  -- told of the source that they were first taken from
  module _ {s : Source} {old new : RowsLeft} {limit left : Option ℕ} (t : HaveTaken judges old new limit left) (before : old.source ≡ s) (after : new.source ≡ s) where
    next_over : passing_over judges s old.rest ≡ t.taken ++ passing_over judges s new.rest
    next_over =
        ap (λ (u : Source). passing_over judges u old.rest) (sym before) ∙ t.next ∙ ap (λ (u : Source). t.taken ++ passing_over judges u new.rest) after

    pub page_over : first_rows limit (passing_over judges s old.rest) ≡ t.taken ++ first_rows left (passing_over judges s new.rest)
    page_over =
        ap (λ (u : Source). first_rows limit (passing_over judges u old.rest)) (sym before) ∙ t.within
        ∙ ap (λ (u : Source). t.taken ++ first_rows left (passing_over judges u new.rest)) after

    -- as many are gone of those that are coming as of those of the page
    pub fewer_over : length (passing_over judges s old.rest) + length (first_rows left (passing_over judges s new.rest))
        ≡ length (first_rows limit (passing_over judges s old.rest)) + length (passing_over judges s new.rest)
    fewer_over =
        let all = ap length next_over ∙ length-append t.taken (passing_over judges s new.rest) in
        let page = ap length page_over ∙ length-append t.taken (first_rows left (passing_over judges s new.rest)) in
        omega (arith, all, page)

-- the last of the rows of a page is the last of those that are left, behind a row and those that were taken
pub end_taken : {rows left : List SpanRow} (more taken : List SpanRow) {row last : SpanRow} (before : Option SpanRow) → rows ≡ row ∷ left → left ≡ taken ++ more → last ≡ last_of row taken
    → page_end more (Some last) ≡ page_end rows before
end_taken more taken {row} before front then_ is =
    ap (λ (r : SpanRow). page_end more (Some r)) is
    ∙ sym (end_append row taken more)
    ∙ ap (λ (rs : List SpanRow). page_end rs (Some row)) (sym then_)
    ∙ ap (λ (rs : List SpanRow). page_end rs before) (sym front)

-- ---- the steps of runs: of so many rows that were left at first, so many are left before one run and behind it

pub runs_steps : {all mid now s1 s2 : ℕ} (s0 : ℕ) (full full' : Bool) → full ≡ true → now ≤ mid → mid ≤ all → s1 ≤ s0 + (4 * (all - mid) + (if full then 0 else 2))
    → s2 ≤ s1 + (4 * (mid - now) + 2) → OnTrue full' ((now < mid) × (s2 ≤ s1 + 4 * (mid - now))) → s2 ≤ s0 + (4 * (all - now) + (if full' then 0 else 2))
runs_steps s0 false full' is low le before run more = absurd (cc)
runs_steps s0 true false is low le before run more = omega (arith, low, le, before, run)
runs_steps s0 true true is low le before run (fewer, more) = omega (arith, low, le, before, more)
