-- The rows of a query's answers in block order, and pages of them.
--   The order and the pages are this project's own.
use Rattle.std.specs.Prelude.{◌≡◌, ℕ, ◌<◌, ◌↔◌, Bool, List, [], ◌∷◌, ◌++◌, length, take, Option, Some, None, IsTrue}
use Rattle.span_core.specs.declared.span.Span.{Span}
use Rattle.span_core.specs.NameSets.{Ascending}
use Rattle.span_core.specs.Order.{StandsBefore}
use Rattle.span_core.specs.Lists.{Has, IsInOrder}
use Rattle.spanner_model.specs.Captures.{VarName, Mapping, row_of}
use Rattle.spanner_model.specs.Expression.{QueryTree}
use Rattle.spanner_model.specs.Answer.{IsAnswer, IsResultVar}

-- a row: the spans of the variables, by ascending names; None is "absent"
abbrev pub SpanRow : Type 0
SpanRow = List (Option Span)

-- the names of the result's variables, strictly ascending
abbrev pub AreResultNames : QueryTree → List VarName → Type 0
AreResultNames q names = Ascending names × ((x : VarName) → Has names x ↔ IsResultVar q x)

-- the row of an answer
abbrev pub IsAnswerRow : QueryTree → List ℕ → List VarName → SpanRow → Type 0
IsAnswerRow q d names row = (m : Mapping) × IsAnswer q d m × (row ≡ row_of names m)

-- each row stands before all later ones
abbrev pub AreInBlockOrder : List SpanRow → Type 0
AreInBlockOrder = IsInOrder StandsBefore

-- all answers, each once, in block order
pub record AreAnswers (q : QueryTree) (d : List ℕ) (names : List VarName) (rows : List SpanRow) : Type 0 where
  pub in_order : AreInBlockOrder rows
  pub each_answers : (row : SpanRow) → Has rows row → IsAnswerRow q d names row
  pub all_there : (row : SpanRow) → IsAnswerRow q d names row → Has rows row

-- of rows in order, those that stand after a row, which need not be one of them; all of them for the start
abbrev pub IsRest : Option SpanRow → List SpanRow → List SpanRow → Type 0
IsRest None rows rest = rest ≡ rows
IsRest (Some after) rows rest =
    (front : List SpanRow) × (rows ≡ front ++ rest)
    × ((r : SpanRow) → Has front r → ¬ StandsBefore after r) × ((r : SpanRow) → Has rest r → StandsBefore after r)

-- a page: the first answers after a row, up to a limit, and whether more remain
abbrev pub IsPage : QueryTree → List ℕ → List VarName → Option SpanRow → ℕ → List SpanRow → Bool → Type 0
IsPage q d names after limit page more =
    (rows : List SpanRow) × (rest : List SpanRow) × AreAnswers q d names rows × IsRest after rows rest
    × (page ≡ take limit rest) × (IsTrue more ↔ (limit < length rest))

-- the row after which the page that follows begins: the last of this page, or where it is empty the row before
abbrev pub page_end : List SpanRow → Option SpanRow → Option SpanRow
page_end [] after = after
page_end (r ∷ page) after = page_end page (Some r)
