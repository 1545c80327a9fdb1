-- The tests of a query: what they mean, and which rows pass them.
use Rattle.std.specs.Prelude.{◌≡◌, ℕ, ◌<◌, Bool, false, IsTrue, List, [], ◌∷◌, length, map, filter, take, slice_range, Option, None, Some, ◌↔◌}
use Rattle.std.specs.List.{list_all}
use Rattle.span_core.specs.declared.span.Span.{Span}
use Rattle.span_core.specs.Lists.{Has}
use Rattle.span_tests.specs.Listed.{IsNamed, number_named}
use Rattle.spanner_model.specs.declared.tested.Asked.{Asked}
use Rattle.spanner_model.specs.Captures.{VarName, mapping_of}
use Rattle.spanner_model.specs.Expression.{QueryTree}
use Rattle.spanner_model.specs.Answers.{SpanRow, AreAnswers, IsRest}

-- the tests that a program knows: their names with their numbers, and the relation of each number
pub record Known : Type 0 where
  pub tests : List (List ℕ × ℕ)
  pub judges : ℕ → List ℕ → Bool

abbrev pub known : List (List ℕ × ℕ) → (ℕ → List ℕ → Bool) → Known
known tests judges = record { tests = tests; judges = judges }

-- what a row has to pass: of the span of a variable, that it is there and that something holds of its bytes
abbrev pub Check : Type 0
Check = VarName × (List ℕ → Bool)

-- the checks of tests that are known
abbrev pub check_of : Known → Asked → Check
check_of k a = (a.var, k.judges (number_named k.tests a.test))

abbrev pub checks_of : Known → List Asked → List Check
checks_of k asked = map (check_of k) asked

-- ---- which rows pass

-- the span is there, and this holds of its bytes
abbrev pub span_passes : (List ℕ → Bool) → List ℕ → Option Span → Bool
span_passes holds d None = false
span_passes holds d (Some s) = holds (slice_range d s.start s.end)

abbrev pub row_passes : List VarName → List ℕ → SpanRow → Check → Bool
row_passes names d row c = span_passes c.1 d (mapping_of names row c.0)

-- the row passes all checks
abbrev pub passes : List Check → List VarName → List ℕ → SpanRow → Bool
passes checks names d row = list_all (row_passes names d row) checks

-- the rows that do; all of them where nothing is checked
abbrev pub passing : List Check → List VarName → List ℕ → List SpanRow → List SpanRow
passing [] names d rows = rows
passing (c ∷ checks) names d rows = filter (passes (c ∷ checks) names d) rows

-- all answers that pass, each once, in block order
abbrev pub ArePassing : List Check → QueryTree → List ℕ → List VarName → List SpanRow → Type 0
ArePassing checks q d names rows = (all : List SpanRow) × AreAnswers q d names all × (rows ≡ passing checks names d all)

-- a page of them
abbrev pub IsPassingPage : List Check → QueryTree → List ℕ → List VarName → Option SpanRow → ℕ → List SpanRow → Bool → Type 0
IsPassingPage checks q d names after limit page more =
    (rows : List SpanRow) × (rest : List SpanRow) × AreAnswers q d names rows × IsRest after (passing checks names d rows) rest
    × (page ≡ take limit rest) × (IsTrue more ↔ (limit < length rest))

-- each test is known
abbrev pub AreKnown : Known → List Asked → Type 0
AreKnown k asked = (a : Asked) → Has asked a → IsNamed k.tests a.test
