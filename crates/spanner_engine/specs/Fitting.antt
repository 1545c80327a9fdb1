-- Rows that fit a document.
use Rattle.std.specs.Prelude.{◌≡◌, ℕ, ◌≤◌, List, ◌++◌, length, Some}
use Rattle.span_core.specs.declared.span.Span.{Span}
use Rattle.span_core.specs.Lists.{Has}
use Rattle.spanner_model.specs.Captures.{VarName}
use Rattle.spanner_model.specs.Expression.{QueryTree}
use Rattle.spanner_model.specs.Answers.{SpanRow, AreAnswers}

-- the row has so many places, and no span ends past n
pub record FitsRow (width n : ℕ) (row : SpanRow) : Type 0 where
  pub lengths : length row ≡ width
  pub inside : (s : Span) → Has row (Some s) → s.end ≤ n

abbrev pub AllFit : ℕ → ℕ → List SpanRow → Type 0
AllFit width n rows = (row : SpanRow) → Has rows row → FitsRow width n row

-- these are the last of the answers
pub record AreLast (q : QueryTree) (d : List ℕ) (names : List VarName) (rest : List SpanRow) : Type 0 where
  pub all : List SpanRow
  pub answers : AreAnswers q d names all
  pub front : List SpanRow
  pub joined : all ≡ front ++ rest
