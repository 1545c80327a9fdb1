-- Rows of a query on a document.
use Rattle.std.specs.Prelude.{◌≡◌, ℕ, ◌/◌, ◌^◌, ◌≤◌, List, length, Option, Some, None, min, nat_eq, cond, IsTrue, refl}
use Rattle.std.specs.List.{list_all}
use Rattle.std.specs.Coded.{Coded, code_by, coded×, coded_list, coded_option, coded_ℕ}
use Rattle.span_core.specs.contracts.span.Span.{the_row as span_row}
use Rattle.span_core.specs.declared.kept.Kept.{Kept}
use Rattle.cell_text.specs.Cells.{ends_by}
use Rattle.row_cursor.specs.CursorTexts.{IsCursorText}
use Rattle.spanner_model.specs.Answers.{SpanRow}
use Rattle.spanner_engine.specs.Fitting.{AreLast}
use Rattle.spanner_engine.specs.Left.{AreLeft}
use Rattle.spanner_library.specs.Cells.{row_cells}
use Rattle.spanner_library.specs.Library.{PreparedQuery, prepared_code, tree}
use Rattle.rematch_program.specs.Pages.{CursorFits}
use Rattle.rematch_program.specs.Run.{IsHeldWithin}
use Rattle.rematch_c.specs.declared.open_rows.ReadOptions.{ReadOptions}

-- the answers of a query on a document that were not tried yet
pub record QueryRows : Type 0 where
  pub query : PreparedQuery
  pub document : List ℕ
  pub rest : List SpanRow

-- it is stored as its parts
abbrev pub rows_code : Coded QueryRows
rows_code =
    code_by (PreparedQuery × (List ℕ × List SpanRow)) (coded× prepared_code (coded× (coded_list coded_ℕ) (coded_list (coded_list (coded_option span_row.coded)))))
    (λ r. (r.query, (r.document, r.rest))) (λ t. record { query = t.0; document = t.1.0; rest = t.1.1 }) (λ _. refl)

-- these are the last answers of the query on the document, which is not too long
abbrev pub AreLastRows : PreparedQuery → List ℕ → List SpanRow → Type 0
AreLastRows p d rest = (length d ≤ 2 ^ 28) × AreLast (tree p).query d p.names rest

-- what is held to read a document may weigh so much, and the filter of each atom
abbrev pub limit_of : ReadOptions → ℕ
limit_of options = min options.max_table 100000000

-- the answers of the query on the document behind this row are to come, or all; what they are read from keeps the limit
pub record AreRowsAfter (p : PreparedQuery) (d : List ℕ) (options : ReadOptions) (after : Option SpanRow) (r : QueryRows) : Type 0 where
  pub query : r.query ≡ p
  pub document : r.document ≡ d
  pub left : AreLeft (tree p).query d p.names after r.rest
  pub held : IsHeldWithin options.filter (tree p).query d (limit_of options)

-- all answers of the query on the document are to come
abbrev pub AreAllRowsOf : PreparedQuery → List ℕ → ReadOptions → QueryRows → Type 0
AreAllRowsOf p d options = AreRowsAfter p d options None

-- the same behind the row that a cursor keeps, which fits the document
pub record AreRowsBehind (p : PreparedQuery) (d cursor : List ℕ) (options : ReadOptions) (r : QueryRows) : Type 0 where
  pub kept : Kept
  pub text : IsCursorText p.names kept.row kept.length cursor
  pub fits : CursorFits (length d) (Some kept)
  pub rows : AreRowsAfter p d options (Some kept.row) r

-- these are the numbers of a row of so many variables, of which no span ends past n
pub record IsRowIn (variables n : ℕ) (numbers : List ℕ) (row : SpanRow) : Type 0 where
  pub lengths : length row ≡ variables
  pub cells : row_cells row ≡ numbers
  pub inside : IsTrue (list_all (ends_by n) row)

-- so many rows at most, and as many as have room in so many numbers
abbrev pub rows_within : ℕ → ℕ → ℕ → ℕ
rows_within most room width = cond (nat_eq width 0) most (min most (room / width))
