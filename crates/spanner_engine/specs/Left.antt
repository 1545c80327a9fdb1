-- Answers that are still to come.
use Rattle.std.specs.Prelude.{◌≡◌, ℕ, Bool, List, ◌++◌, Option}
use Rattle.spanner_model.specs.Captures.{VarName}
use Rattle.spanner_model.specs.Expression.{QueryTree}
use Rattle.spanner_model.specs.Answers.{AreAnswers, IsRest, SpanRow}
use Rattle.spanner_model.specs.declared.tested.Asked.{Asked}
use Rattle.spanner_model.specs.Passing.{Check, checks_of, known, passing}

-- how many variables a row has, the rows that are still to come, and the one that was gone to
pub record AnswersLeft : Type 0 where
  pub variables : ℕ
  pub rest : List SpanRow
  pub row : SpanRow

-- the answers that stand after a row, or all of them
abbrev pub AreLeft : QueryTree → List ℕ → List VarName → Option SpanRow → List SpanRow → Type 0
AreLeft q d names after rest = (rows : List SpanRow) × AreAnswers q d names rows × IsRest after rows rest

-- ---- answers under tests

-- what rows are taken from: the tests that are asked, those that are known, the names of the variables, and the document
pub record Source : Type 0 where
  pub asked : List Asked
  pub tests : List (List ℕ × ℕ)
  pub names : List VarName
  pub document : List ℕ

abbrev pub over : List Asked → List (List ℕ × ℕ) → List VarName → List ℕ → Source
over asked tests names document = record { asked = asked; tests = tests; names = names; document = document }

-- with the answers that were not tried yet, and the row that was gone to
pub record RowsLeft : Type 0 where
  pub source : Source
  pub rest : List SpanRow
  pub row : SpanRow

-- the checks of its rows
abbrev pub checks_over : (ℕ → List ℕ → Bool) → Source → List Check
checks_over judges s = checks_of (known s.tests judges) s.asked

-- of these answers those that pass
abbrev pub passing_over : (ℕ → List ℕ → Bool) → Source → List SpanRow → List SpanRow
passing_over judges s rows = passing (checks_over judges s) s.names s.document rows

-- the one list ends in the other
abbrev pub EndsIn : List SpanRow → List SpanRow → Type 0
EndsIn rows rest = (front : List SpanRow) × (rows ≡ front ++ rest)
