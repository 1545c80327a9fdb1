-- Rows as numbers, one row behind another.
use Rattle.std.specs.Prelude.{ℕ, ◌-◌, ◌^◌, List, [], ◌∷◌, ◌++◌, Option, None, Some}
use Rattle.span_core.specs.declared.span.Span.{Span}
use Rattle.spanner_model.specs.Answers.{SpanRow}

-- what stands in the place of a number of an absent span
abbrev pub absent : ℕ
absent = 2 ^ 32 - 1

-- where a span starts and where it ends
abbrev pub span_cells : Option Span → List ℕ
span_cells None = absent ∷ absent ∷ []
span_cells (Some s) = s.start ∷ s.end ∷ []

-- the spans of a row, in the order of its variables
abbrev pub row_cells : SpanRow → List ℕ
row_cells [] = []
row_cells (s ∷ row) = span_cells s ++ row_cells row

-- rows, one behind another
abbrev pub rows_cells : List SpanRow → List ℕ
rows_cells [] = []
rows_cells (row ∷ rows) = row_cells row ++ rows_cells rows
