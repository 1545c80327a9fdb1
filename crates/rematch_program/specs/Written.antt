-- A page while it is written: its lines, what of them waits, and where it ends.
use Rattle.std.specs.Prelude.{◌≡◌, ◌↔◌, ◌<◌, ℕ, Bool, IsTrue, List, Option, None, length}
use Rattle.std.specs.Bool.{OnTrue}
use Rattle.std.specs.List.{flat_map}
use Rattle.command_line.specs.RequestView.{RequestView}
use Rattle.command_line.specs.declared.request.Form.{Form}
use Rattle.spanner_model.specs.Captures.{VarName}
use Rattle.spanner_model.specs.Answers.{SpanRow, page_end}
use Rattle.spanner_engine.specs.Left.{Source}
use Rattle.rematch_program.specs.Pages.{FitsPage, page_head, row_text}

-- its form, and whether texts are shown; its columns and its document; and the bytes that wait for a put
pub record Page : Type 0 where
  pub form : Form
  pub texts : Bool
  pub names : List VarName
  pub document : List ℕ
  pub waiting : List ℕ

abbrev pub page_of : Form → Bool → List VarName → List ℕ → List ℕ → Page
page_of form texts names document waiting = record { form = form; texts = texts; names = names; document = document; waiting = waiting }

abbrev pub with_waiting : List ℕ → Page → Page
with_waiting waiting p = page_of p.form p.texts p.names p.document waiting

-- as it is asked for, with what stands before its rows
abbrev pub page_begun : RequestView → List VarName → List ℕ → Page
page_begun a names document = page_of a.form a.texts names document (page_head a.form names)

-- the line of a row
abbrev pub line_of : Page → SpanRow → List ℕ
line_of p = row_text p.form p.texts p.names p.document

abbrev pub lines_of : Page → List SpanRow → List ℕ
lines_of p rows = flat_map (line_of p) rows

-- a row of its columns and its document
abbrev pub Fits : Page → SpanRow → Type 0
Fits p row = FitsPage (length p.names) (length p.document) row

-- its rows come from there
pub record IsOver (p : Page) (s : Source) : Type 0 where
  pub names : p.names ≡ s.names
  pub document : p.document ≡ s.document

-- where these rows end, of all that were coming: whether more remain, and then which is the last
pub record EndsPage (rows coming : List SpanRow) (last_row : Option SpanRow) (some_more : Bool) : Type 0 where
  pub more : IsTrue some_more ↔ (length rows < length coming)
  pub last : OnTrue some_more (last_row ≡ page_end rows None)
