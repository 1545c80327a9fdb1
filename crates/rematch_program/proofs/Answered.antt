-- From what was written of the rows that were left to a case of the run.
use Rattle.std.proofs.Common.{◌≡◌, ℕ, Bool, List, Option, None, suc, length, subst}
use Rattle.std.specs.Prelude.{codes, nat_lt}
use Rattle.std.proofs.lemmas.Bool.{le-leb, leb-true}
use Rattle.rm_outside.specs.declared.status.Status.{Status}
use Rattle.command_line.specs.RequestView.{RequestView}
use Rattle.command_line.specs.declared.request.Mode.TheVariants as mode
use Rattle.span_core.specs.declared.kept.Kept.{Kept}
use Rattle.spanner_model.specs.Captures.{VarName}
use Rattle.spanner_model.specs.Expression.{QueryTree}
use Rattle.spanner_model.specs.declared.query.Query.{Query}
use Rattle.spanner_model.specs.ExprView.{query_of}
use Rattle.spanner_model.specs.Answers.{AreResultNames, SpanRow}
use Rattle.spanner_engine.specs.Fitting.{AreLast}
use Rattle.spanner_engine.specs.Begun.{begin_steps, row_kept}
use Rattle.spanner_engine.specs.Left.{AreLeft, RowsLeft, Source, checks_over, passing_over}
use Rattle.rm_outside.specs.Change.{Change}
use Rattle.rematch_program.specs.Work.{clock, work}
use Rattle.note_texts.specs.Notes.{line}
use Rattle.rematch_program.specs.Pages.{CursorFits, first_rows, last_note, page_text}
use Rattle.rematch_program.specs.Run.{FromDocument, FromPage, IsHeldWithin, answered, paged, summed}
use Rattle.rematch_program.specs.Steps.{KeepsWithin}
use Rattle.rematch_program.specs.Taking.{AllTaken, PageTaken, PageTakes, TrialTakes, coming, page_note, whole_text}
use Rattle.rematch_program.specs.Trials.{trial_summary}
use Rattle.rematch_program.proofs.PageSteps.{page_earlier}
use Rattle.rematch_program.proofs.PassingPages.{all_passing, left_last, page_keeps, passing_page, trial_keeps}

-- what is known of the compiled query, told of the query itself
pub result_names : (q r : Query) (names others : List VarName) → q ≡ r → others ≡ names → AreResultNames (query_of q) names → AreResultNames (query_of r) others
result_names q r names others same are named = rw are (rw (← same) named)

pub result_last : (q r : Query) (d : List ℕ) (names others : List VarName) (after : Option SpanRow) (rest : List SpanRow) → q ≡ r → others ≡ names → AreLeft (query_of q) d names after rest →
    AreLast (query_of r) d others rest
result_last q r d names others after rest same are left =
    rw are (rw (← same) (left_last (query_of q) d names after rest left))

-- the rows are over s, and these answers were left of them
module _ (judges : ℕ → List ℕ → Bool) (s : Source) (rest : List SpanRow) (r : RowsLeft) (over : r.source ≡ s) (are : r.rest ≡ rest) (a : RequestView)
    (q : QueryTree) (out : Change) (end : Status) (note : List ℕ) (old mid new : ℕ) where
  abbrev page : List SpanRow
  page = first_rows a.limit (passing_over judges s rest)

  page_written : FromPage (work out (clock mid new)) end note (whole_text judges r a) (page_note judges r a) (PageTaken judges r a.limit) →
      FromPage (work out (clock mid new)) end note (page_text a.form a.texts s.names s.document page)
      (last_note s.names (length s.document) a.after page (nat_lt (length page) (length (passing_over judges s rest))))
      (PageTakes (checks_over judges s) s.names s.document rest page)
  page_written h =
      let At : Source → List SpanRow → Type 0 = λ u rows. FromPage (work out (clock mid new)) end note (page_text a.form a.texts u.names u.document (first_rows a.limit (passing_over judges u rows)))
      (last_note u.names (length u.document) a.after (first_rows a.limit (passing_over judges u rows))
      (nat_lt (length (first_rows a.limit (passing_over judges u rows))) (length (passing_over judges u rows))))
      (PageTakes (checks_over judges u) u.names u.document rows (first_rows a.limit (passing_over judges u rows))) in
      subst (At s) are (subst (λ (u : Source). At u r.rest) over h)

  pub page_answered : (after : Option Kept) → a.mode ≡ mode.Plain → CursorFits (length s.document) after →
      IsHeldWithin a.filter q s.document a.max_table → AreLeft q s.document s.names (row_kept after) rest →
      KeepsWithin a.filter q s.document (λ K. begin_steps a.filter q s.document K (row_kept after)) (clock old mid) →
      FromPage (work out (clock mid new)) end note (whole_text judges r a) (page_note judges r a) (PageTaken judges r a.limit) →
      FromDocument a q (checks_over judges s) (work out (clock old new)) end note s.names after s.document
  page_answered after plain fits held left few h =
      let rows = passing_over judges s rest in
      answered fits held
      (paged plain page (nat_lt (length page) (length rows))
      (passing_page (checks_over judges s) q s.document s.names (row_kept after) a.limit rest (nat_lt (length page) (length rows)) left
      (λ t. leb-true (suc (length page)) (length rows) t, λ l. le-leb (suc (length page)) (length rows) l))
      (page_earlier out end note old mid new _ _ _ _ (page_keeps a.filter q s.document s.names old mid new (checks_over judges s) (row_kept after) rest page left few) (page_written h)))

  summary_written : (lines : ℕ) → FromPage (work out (clock mid new)) end note (trial_summary lines r.source.names r.source.document (coming judges r)) (line (codes "end")) (AllTaken judges r) →
      FromPage (work out (clock mid new)) end note (trial_summary lines s.names s.document (passing_over judges s rest)) (line (codes "end"))
      (TrialTakes (checks_over judges s) s.names rest (passing_over judges s rest))
  summary_written lines h =
      let At : Source → List SpanRow → Type 0 = λ u rows. FromPage (work out (clock mid new)) end note (trial_summary lines u.names u.document (passing_over judges u rows)) (line (codes "end"))
      (TrialTakes (checks_over judges u) u.names rows (passing_over judges u rows)) in
      subst (At s) are (rw (← over) h)

  pub trial_answered : (lines : ℕ) → a.mode ≡ mode.Trial lines → IsHeldWithin a.filter q s.document a.max_table → AreLeft q s.document s.names None rest →
      KeepsWithin a.filter q s.document (λ K. begin_steps a.filter q s.document K None) (clock old mid) →
      FromPage (work out (clock mid new)) end note (trial_summary lines r.source.names r.source.document (coming judges r)) (line (codes "end")) (AllTaken judges r) →
      FromDocument a q (checks_over judges s) (work out (clock old new)) end note s.names None s.document
  trial_answered lines trial held left few h =
      answered tt held
      (summed lines trial (passing_over judges s rest) (all_passing (checks_over judges s) q s.document s.names rest left)
      (page_earlier out end note old mid new _ _ _ _ (trial_keeps a.filter q s.document s.names old mid new (checks_over judges s) rest left few) (summary_written lines h)))
