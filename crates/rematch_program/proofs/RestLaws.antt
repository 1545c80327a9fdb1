-- The rows after a row, and the first of them.
use Rattle.std.proofs.Common.{◌≡◌, ℕ, List, length, Option, Some, None}
use Rattle.span_core.specs.Lists.{Has}
use Rattle.span_core.specs.declared.kept.Kept.{Kept}
use Rattle.spanner_engine.specs.Begun.{row_kept}
use Rattle.spanner_model.specs.Captures.{VarName}
use Rattle.spanner_model.specs.Answers.{SpanRow, IsRest}
use Rattle.span_core.proofs.HasLaws.{Has-append_right}
use Rattle.row_cursor.specs.CursorTexts.{IsCursorText}
use Rattle.rematch_program.specs.Pages.{HasWidth, IsAfter}

-- ---- the page

pub Has-rest : (after : Option SpanRow) (rows rest : List SpanRow) (r : SpanRow) → IsRest after rows rest → Has rest r → Has rows r
Has-rest None rows rest r is h = rw (← is) h
Has-rest (Some after) rows rest r is h = rw is.1 (Has-append_right is.0 rest r h)

width_of : (names : List VarName) (row : SpanRow) (kept : Option ℕ) (text : List ℕ) → IsCursorText names row kept text → length row ≡ length names
width_of names row None text h = h.row_is.lengths
width_of names row (Some n) text h = h.row_is.lengths

-- the row of a cursor has a place for each variable
pub has_width : (names : List VarName) (text : Option (List ℕ)) (after : Option Kept) → IsAfter names text after → HasWidth (length names) (row_kept after)
has_width names None None h = tt
has_width names None (Some kept) h = absurd h
has_width names (Some text) None h = absurd h
has_width names (Some text) (Some kept) h = width_of names kept.row kept.length text h
