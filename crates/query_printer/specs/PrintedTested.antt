-- The printed form of a query with tests, and what it and the grammar have in common.
use Rattle.std.specs.Prelude.{◌≡◌, ◌≤◌, ℕ, List, [], ◌∷◌, ◌++◌, length, map, codes}
use Rattle.span_core.specs.Lists.{Has}
use Rattle.spanner_model.specs.Captures.{VarName}
use Rattle.spanner_model.specs.Expression.{QueryTree}
use Rattle.spanner_model.specs.Sound.{IsFreeName, IsSound}
use Rattle.query_parser.specs.declared.TheConstants.{MOST_TEXT_BYTES}
use Rattle.spanner_model.specs.declared.tested.Asked.{Asked}
use Rattle.query_parser.specs.Tested.{AreOfResult, IsTestedText}
use Rattle.spanner_model.specs.Tested.{TestedTree}
use Rattle.query_printer.specs.PrintedQuery.{joined, query_text, IsShallowQuery}

abbrev pub test_text : Asked → List ℕ
test_text a = a.test ++ (codes "(" ++ (a.var ++ codes ")"))

-- the tests, with a comma and a blank between
abbrev pub tests_text : List Asked → List ℕ
tests_text asked = joined (codes ", ") (map test_text asked)

-- the printed form: that of the query, and then its tests, where there are any
abbrev pub tested_text : QueryTree → List Asked → List ℕ
tested_text q [] = query_text q
tested_text q (a ∷ asked) = query_text q ++ (codes " where " ++ tests_text (a ∷ asked))

-- a test without the place that its name has in a text
abbrev pub asks : Asked → VarName × VarName
asks a = (a.test, a.var)

-- the names of tests and variables are no words of queries
abbrev pub AreFreeTests : List Asked → Type 0
AreFreeTests asked = (a : Asked) → Has asked a → IsFreeName a.test × IsFreeName a.var

-- a query with tests that a text of these limits can have
pub record IsPrintable (t : TestedTree) : Type 0 where
  pub sound : IsSound t.query
  pub of_result : AreOfResult t
  pub free : AreFreeTests t.asked
  pub shallow : IsShallowQuery t.query
  pub short : length (tested_text t.query t.asked) ≤ MOST_TEXT_BYTES

-- within the limits, the printed form is a text of the query with its tests, each with its place in that text
abbrev pub TestedAreRead : Type 0
TestedAreRead =
    (t : TestedTree) → IsPrintable t →
    (u : TestedTree) × IsTestedText (tested_text t.query t.asked) u × (u.query ≡ t.query) × (map asks u.asked ≡ map asks t.asked)
