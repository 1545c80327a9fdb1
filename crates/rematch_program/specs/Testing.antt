-- The answers that pass a query's tests: pages and summaries of them, and what they cost. Where nothing is checked each of these is, word for
-- word, what it is of a query without tests.
use Rattle.std.specs.Prelude.{◌≡◌, ℕ, ◌+◌, ◌*◌, ◌≤◌, Bool, false, List, [], ◌∷◌, ◌++◌, length, take, Option, Some, None, codes}
use Rattle.spanner_model.specs.Captures.{VarName}
use Rattle.spanner_model.specs.Expression.{QueryTree}
use Rattle.spanner_model.specs.Answers.{SpanRow, AreAnswers}
use Rattle.spanner_model.specs.Tested.{TestedTree}
use Rattle.query_printer.specs.PrintedTested.{tested_text}
use Rattle.spanner_engine.specs.Begun.{begin_steps}
use Rattle.spanner_engine.specs.Left.{AreLeft}
use Rattle.spanner_model.specs.Passing.{Check, ArePassing, IsPassingPage, passing}
use Rattle.rematch_program.specs.Work.{Clock}
use Rattle.rematch_program.specs.Explained.{atom_lines, names_text, query_atoms}
use Rattle.note_texts.specs.Notes.{line}
use Rattle.rematch_program.specs.Steps.{KeepsWithin, next_steps, stated_steps}

-- ---- pages and summaries

-- a page with a limit, or without one that after which no row remains
abbrev pub IsPassingPageOf : List Check → QueryTree → List ℕ → List VarName → Option SpanRow → Option ℕ → List SpanRow → Bool → Type 0
IsPassingPageOf checks q d names after (Some limit) rows more = IsPassingPage checks q d names after limit rows more
IsPassingPageOf checks q d names after None rows more = (limit : ℕ) × IsPassingPage checks q d names after limit rows more × (more ≡ false)

-- all answers that pass
abbrev pub AreAllPassing : List Check → QueryTree → List ℕ → List VarName → List SpanRow → Type 0
AreAllPassing [] q d names rows = AreAnswers q d names rows
AreAllPassing (c ∷ checks) q d names rows = ArePassing (c ∷ checks) q d names rows

-- ---- steps

-- So many answers were tried for a page: of those that stand after a row no more than up to the first that passes behind the page.
pub record AreTried (checks : List Check) (q : QueryTree) (d : List ℕ) (names : List VarName) (after : Option SpanRow) (page : List SpanRow) (tried : ℕ) : Type 0 where
  pub rest : List SpanRow
  pub left : AreLeft q d names after rest
  pub within : tried ≤ length rest
  pub few : length (passing checks names d (take tried rest)) ≤ length page + 1

-- to go to so many answers and one further, with one call of each test for each
abbrev pub tried_steps : List VarName → ℕ → ℕ → ℕ
tried_steps names tests tried = (tried + 1) * (next_steps (length names)) + tried * tests

-- what a page costs
abbrev pub PageKeeps : List Check → Bool → QueryTree → List VarName → List ℕ → Option SpanRow → List SpanRow → Clock → Type 0
PageKeeps [] filter q names d after page = KeepsWithin filter q d (λ K. stated_steps filter q names d K after (length page))
PageKeeps (c ∷ checks) filter q names d after page = λ spent.
    (tried : ℕ) × AreTried (c ∷ checks) q d names after page tried
    × KeepsWithin filter q d (λ K. begin_steps filter q d K after + tried_steps names (length (c ∷ checks)) tried) spent

-- what a summary costs
abbrev pub TrialKeeps : List Check → Bool → QueryTree → List VarName → List ℕ → List SpanRow → Clock → Type 0
TrialKeeps [] filter q names d rows = KeepsWithin filter q d (λ K. stated_steps filter q names d K None (length rows))
TrialKeeps (c ∷ checks) filter q names d rows = λ spent.
    (all : List SpanRow) × AreAnswers q d names all
    × KeepsWithin filter q d (λ K. begin_steps filter q d K None + tried_steps names (length (c ∷ checks)) (length all)) spent

-- ---- what is told of a query with tests

abbrev pub explain_tested : TestedTree → List VarName → List ℕ
explain_tested t names =
    line (codes "query " ++ tested_text t.query t.asked) ++ line (codes "variables " ++ names_text names) ++ atom_lines 1 (query_atoms t.query)
