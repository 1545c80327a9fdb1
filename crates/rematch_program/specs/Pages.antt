-- The page that a run writes: its rows, its text, and the note at its end.
use Rattle.std.specs.Prelude.{◌≡◌, ◌≤◌, ℕ, Bool, false, IsTrue, List, [], ◌∷◌, ◌++◌, Option, Some, None, codes, length, take, unwrap_or, if◌then◌else◌}
use Rattle.std.specs.Option.{MatchOption}
use Rattle.span_core.specs.Lists.{Has}
use Rattle.span_core.specs.declared.kept.Kept.{Kept}
use Rattle.spanner_model.specs.Captures.{VarName}
use Rattle.spanner_model.specs.Expression.{QueryTree}
use Rattle.spanner_model.specs.Answers.{SpanRow, IsPage}
use Rattle.row_cursor.specs.CursorTexts.{cursor_text, IsCursorText}
use Rattle.row_writer.specs.Lines.{spans_text, head_text, table_text}
use Rattle.row_writer.specs.JsonLines.{json_text}
use Rattle.command_line.specs.declared.request.Form.{Form}
use Rattle.command_line.specs.declared.request.Form.TheVariants as form
use Rattle.std.specs.List.{flat_map, list_all}
use Rattle.cell_text.specs.Cells.{ends_by}
use Rattle.note_texts.specs.Notes.{line}

-- ---- where the page begins

-- what a cursor's text keeps, a row and maybe a document's length; nothing, for the start, where no text is given
abbrev pub IsAfter : List VarName → Option (List ℕ) → Option Kept → Type 0
IsAfter names None None = Unit {0}
IsAfter names None (Some kept) = ⊥
IsAfter names (Some text) None = ⊥
IsAfter names (Some text) (Some kept) = IsCursorText names kept.row kept.length text

-- no span of the row ends past n
abbrev pub is_inside : ℕ → SpanRow → Bool
is_inside n row = list_all (ends_by n) row

-- a cursor fits a document of n bytes: it keeps this length; or it keeps none, and no span of its row ends past n
abbrev pub CursorFits : ℕ → Option Kept → Type 0
CursorFits n None = Unit {0}
CursorFits n (Some kept) = MatchOption kept.length (IsTrue (is_inside n kept.row)) (λ length. length ≡ n)

-- ---- the rows of the page

-- a page with a limit, or without one that after which no row remains
abbrev pub IsPageOf : QueryTree → List ℕ → List VarName → Option SpanRow → Option ℕ → List SpanRow → Bool → Type 0
IsPageOf q d names after (Some limit) rows more = IsPage q d names after limit rows more
IsPageOf q d names after None rows more = (limit : ℕ) × IsPage q d names after limit rows more × (more ≡ false)

-- the first rows, all of them without a limit
abbrev pub first_rows : Option ℕ → List SpanRow → List SpanRow
first_rows None rows = rows
first_rows (Some limit) rows = take limit rows

-- a limit that is no less
abbrev pub Allows : Option ℕ → ℕ → Type 0
Allows None n = Unit {0}
Allows (Some limit) n = n ≤ limit

-- ---- the text of the page

-- the line of a row
abbrev pub row_text : Form → Bool → List VarName → List ℕ → SpanRow → List ℕ
row_text form.Spans texts names d row = spans_text names row d texts
row_text form.Table texts names d row = table_text row d texts
row_text form.Json texts names d row = json_text names row d texts

-- what stands before all rows
abbrev pub page_head : Form → List VarName → List ℕ
page_head form.Spans names = []
page_head form.Table names = head_text names
page_head form.Json names = []

-- the head, and a line for each row
abbrev pub page_text : Form → Bool → List VarName → List ℕ → List SpanRow → List ℕ
page_text form texts names d rows = page_head form names ++ flat_map (row_text form texts names d) rows

-- ---- the note at its end

-- the text of the last row that was written, of a document of n bytes; where none was, the text that was given, or the word `start`
abbrev pub next_cursor : List VarName → ℕ → Option (List ℕ) → List SpanRow → List ℕ
next_cursor names n given [] = unwrap_or given (codes "start")
next_cursor names n given (row ∷ rows) = next_cursor names n (Some (cursor_text names row n)) rows

-- the text of the last row so far, or that which was given
abbrev pub cursor_given : List VarName → ℕ → Option SpanRow → Option (List ℕ) → Option (List ℕ)
cursor_given names n None given = given
cursor_given names n (Some row) given = Some (cursor_text names row n)

-- a row, where there is one
abbrev pub row_if : Bool → SpanRow → Option SpanRow
row_if some row = if some then Some row else None

abbrev pub last_note : List VarName → ℕ → Option (List ℕ) → List SpanRow → Bool → List ℕ
last_note names n given rows more = if more then line (codes "more " ++ next_cursor names n given rows) else line (codes "end")

-- ---- what is known of a page's rows

-- the row has so many places
abbrev pub HasWidth : ℕ → Option SpanRow → Type 0
HasWidth v None = Unit {0}
HasWidth v (Some row) = length row ≡ v

-- a place for each variable, and no span ends past n
pub record FitsPage (width n : ℕ) (row : SpanRow) : Type 0 where
  pub lengths : length row ≡ width
  pub inside : IsTrue (is_inside n row)

-- the same of a row, where there is one
abbrev pub FitsIf : ℕ → ℕ → Option SpanRow → Type 0
FitsIf width n None = Unit {0}
FitsIf width n (Some row) = FitsPage width n row

abbrev pub AllFit : ℕ → ℕ → List SpanRow → Type 0
AllFit width n rows = (row : SpanRow) → Has rows row → FitsPage width n row
