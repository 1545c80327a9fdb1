-- Taking the rows of a page or of a summary, of the answers that are left: which these are, what is written of them, and what it costs.
use Rattle.std.specs.Prelude.{◌≡◌, ℕ, ◌+◌, ◌≤◌, Bool, List, [], ◌∷◌, ◌++◌, Option, length, nat_lt, take}
use Rattle.command_line.specs.RequestView.{RequestView}
use Rattle.spanner_model.specs.Captures.{VarName}
use Rattle.spanner_model.specs.Answers.{SpanRow}
use Rattle.enumerator.specs.Ends.{last_of}
use Rattle.spanner_engine.specs.Left.{RowsLeft, checks_over, passing_over}
use Rattle.spanner_model.specs.Passing.{Check, passing}
use Rattle.rematch_program.specs.Work.{Clock, TakesAtMost}
use Rattle.rematch_program.specs.Pages.{first_rows, last_note, page_text}
use Rattle.rematch_program.specs.Steps.{row_steps}
use Rattle.rematch_program.specs.Testing.{tried_steps}

-- ---- what it costs

-- a page of the answers that were left
abbrev pub PageTakes : List Check → List VarName → List ℕ → List SpanRow → List SpanRow → Clock → Type 0
PageTakes [] names d rest page spent = TakesAtMost spent (row_steps names (length page))
PageTakes (c ∷ checks) names d rest page spent =
    (tried : ℕ) × (tried ≤ length rest) × (length (passing (c ∷ checks) names d (take tried rest)) ≤ length page + 1)
    × TakesAtMost spent (tried_steps names (length (c ∷ checks)) tried)

-- all of them
abbrev pub TrialTakes : List Check → List VarName → List SpanRow → List SpanRow → Clock → Type 0
TrialTakes [] names rest rows spent = TakesAtMost spent (row_steps names (length rows))
TrialTakes (c ∷ checks) names rest rows spent = TakesAtMost spent (tried_steps names (length (c ∷ checks)) (length rest))

-- ---- of rows under tests

module _ (judges : ℕ → List ℕ → Bool) (r : RowsLeft) where
  -- those that will be given
  abbrev pub coming : List SpanRow
  coming = passing_over judges r.source r.rest

  abbrev pub AllTaken : Clock → Type 0
  AllTaken spent = TrialTakes (checks_over judges r.source) r.source.names r.rest coming spent

  module _ (limit : Option ℕ) where
    -- the rows of the page
    abbrev pub page_rows : List SpanRow
    page_rows = first_rows limit coming

    abbrev pub PageTaken : Clock → Type 0
    PageTaken spent = PageTakes (checks_over judges r.source) r.source.names r.source.document r.rest page_rows spent

  module _ (a : RequestView) where
    abbrev pub whole_text : List ℕ
    whole_text = page_text a.form a.texts r.source.names r.source.document (page_rows a.limit)

    abbrev pub page_note : List ℕ
    page_note = last_note r.source.names (length r.source.document) a.after (page_rows a.limit) (nat_lt (length (page_rows a.limit)) (length coming))

-- ---- some of the rows of a page

-- Of the rows that were coming up to a limit these were taken, and the last of them was gone to. The others are left, up to what is left
-- of the limit.
pub record HaveTaken (judges : ℕ → List ℕ → Bool) (old new : RowsLeft) (limit left : Option ℕ) : Type 0 where
  pub taken : List SpanRow
  pub next : coming judges old ≡ taken ++ coming judges new
  pub within : page_rows judges old limit ≡ taken ++ page_rows judges new left
  pub row : new.row ≡ last_of old.row taken
