-- The next row that passes the tests of a query, and the steps of trying rows.
use Rattle.std.specs.Prelude.{◌≡◌, ℕ, ◌+◌, ◌*◌, if◌then◌else◌, Bool, true, List, [], ◌∷◌, ◌++◌}
use Rattle.spanner_model.specs.Captures.{VarName}
use Rattle.spanner_model.specs.Answers.{SpanRow}
use Rattle.spanner_model.specs.Passing.{Check, passes, passing}

-- Of the rows that were left, those before this one do not pass, and it does; these are left behind it.
pub record IsNextPassing (checks : List Check) (names : List VarName) (d : List ℕ) (old : List SpanRow) (row : SpanRow) (new : List SpanRow) : Type 0 where
  pub tried : List SpanRow
  pub joined : old ≡ tried ++ row ∷ new
  pub fail : passing checks names d tried ≡ []
  pub passed : passes checks names d row ≡ true

-- to try so many answers of v variables under so many tests: for each two steps for each variable, and one for each test; and as many
-- without the tests where none was found
abbrev pub trying_steps : ℕ → ℕ → ℕ → Bool → ℕ
trying_steps v tests tried found = tried * (2 * v + tests) + (if found then 0 else 2 * v)
