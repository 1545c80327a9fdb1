-- Runs that are resumed at their own cursors.
use Rattle.std.specs.Prelude.{◌≡◌, ℕ, ◌+◌, ◌<◌, ◌≤◌, ◌↔◌, IsTrue, List, [], ◌∷◌, ◌++◌, Bool, Option, Some, None, length, take}
use Rattle.std.specs.List.{All}
use Rattle.command_line.specs.RequestView.{cursor_of}
use Rattle.span_core.specs.declared.kept.Kept.{Kept}
use Rattle.spanner_engine.specs.Begun.{row_kept}
use Rattle.spanner_model.specs.Passing.{Check, ArePassing, IsPassingPage}
use Rattle.spanner_model.specs.Captures.{VarName}
use Rattle.spanner_model.specs.Expression.{QueryTree}
use Rattle.spanner_model.specs.Sound.{IsSound}
use Rattle.spanner_model.specs.Answers.{SpanRow, AreInBlockOrder, AreResultNames, page_end}
use Rattle.rematch_program.specs.declared.TheConstants.{DOCUMENT_LIMIT}
use Rattle.rematch_program.specs.Pages.{IsAfter, CursorFits, next_cursor}
use Rattle.rematch_program.specs.Testing.{IsPassingPageOf}

-- the text that the note of a page of a document of n bytes gives, read as that of `-a`
abbrev pub note_cursor : List VarName → ℕ → Option (List ℕ) → List SpanRow → Option (List ℕ)
note_cursor names n given page = cursor_of (Some (next_cursor names n given page))

-- the limit of two pages together, where the second has one
abbrev pub with_limit : ℕ → Option ℕ → Option ℕ
with_limit a None = None
with_limit a (Some b) = Some (a + b)

-- a text at which a run begins where a page of the rows that pass, of the document after `after` with limit `a`, ended: it is a cursor
-- that fits, and the page that begins at it joins the page before
pub record Resumes (checks : List Check) (q : QueryTree) (d : List ℕ) (names : List VarName) (after : Option Kept) (a : ℕ) (page : List SpanRow) (text : Option (List ℕ)) : Type 0 where
  pub resumed : Option Kept
  pub taken : IsAfter names text resumed
  pub only : (other : Option Kept) → IsAfter names text other → other ≡ resumed
  pub fits : CursorFits (length d) resumed
  pub place : row_kept resumed ≡ page_end page (row_kept after)
  pub joins : (b : Option ℕ) (next : List SpanRow) (more : Bool) → IsPassingPageOf checks q d names (row_kept resumed) b next more →
      IsPassingPageOf checks q d names (row_kept after) (with_limit a b) (page ++ next) more

-- the text of a page's note is one, on the same query and document, whatever is checked
abbrev pub PagesResume : Type 0
PagesResume =
    (checks : List Check) (q : QueryTree) (d : List ℕ) (names : List VarName) (given : Option (List ℕ)) (after : Option Kept) (a : ℕ) (page : List SpanRow) (more : Bool) →
    IsSound q → length d ≤ DOCUMENT_LIMIT → AreResultNames q names →
    IsAfter names given after → CursorFits (length d) after → IsPassingPage checks q d names (row_kept after) a page more →
    Resumes checks q d names after a page (note_cursor names (length d) given page)

-- ---- any number of pages

-- a page that was written: its limit, its rows, and whether more remain
pub record Paged : Type 0 where
  pub limit : ℕ
  pub rows : List SpanRow
  pub more : Bool

-- the rows of pages, one page behind the other
abbrev pub rows_of : List Paged → List SpanRow
rows_of [] = []
rows_of (p ∷ pages) = p.rows ++ rows_of pages

abbrev pub limits_of : List Paged → ℕ
limits_of [] = 0
limits_of (p ∷ pages) = p.limit + limits_of pages

-- each is the page that begins at a text: the first at this one, and each later one at that of the note of the page before
abbrev pub AreResumed : List Check → QueryTree → List ℕ → List VarName → Option (List ℕ) → List Paged → Type 0
AreResumed checks q d names given [] = Unit {0}
AreResumed checks q d names given (p ∷ pages) =
    ((after : Option Kept) × IsAfter names given after × IsPassingPage checks q d names (row_kept after) p.limit p.rows p.more)
    × AreResumed checks q d names (note_cursor names (length d) given p.rows) pages

-- Of rows in order, which have none twice, the pages have the first, each once, as many as their limits say; the last says whether more
-- remain; and where each limit is at least 1 and there are as many pages as rows, none is left.
pub record GiveInTurn (pages : List Paged) (rows : List SpanRow) : Type 0 where
  pub in_order : AreInBlockOrder rows
  pub first : rows_of pages ≡ take (limits_of pages) rows
  pub more : (front : List Paged) (last : Paged) → pages ≡ front ++ last ∷ [] → IsTrue last.more ↔ (limits_of pages < length rows)
  pub ends : All (λ p. 1 ≤ p.limit) pages → length rows ≤ length pages → rows_of pages ≡ rows

-- pages that begin at the start of a document and go on at their own notes give the answers that pass
abbrev pub PagesGiveEachOnce : Type 0
PagesGiveEachOnce =
    (checks : List Check) (q : QueryTree) (d : List ℕ) (names : List VarName) (pages : List Paged) (rows : List SpanRow) →
    IsSound q → length d ≤ DOCUMENT_LIMIT → AreResultNames q names →
    ArePassing checks q d names rows → AreResumed checks q d names None pages → GiveInTurn pages rows
