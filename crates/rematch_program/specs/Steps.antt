-- The steps that are stated.
use Rattle.std.specs.Prelude.{ℕ, ◌+◌, ◌*◌, Bool, List, length, Option}
use Rattle.spanner_model.specs.Captures.{VarName}
use Rattle.spanner_model.specs.Expression.{QueryTree}
use Rattle.spanner_model.specs.Answers.{SpanRow}
use Rattle.spanner_engine.specs.Begun.{AreRead, begin_steps}
use Rattle.rematch_program.specs.Work.{Clock, TakesAtMost}

-- to the next row of v variables
abbrev pub next_steps : ℕ → ℕ
next_steps v = 4 * v + 4

-- for so many rows: one more tells whether rows remain
abbrev pub row_steps : List VarName → ℕ → ℕ
row_steps names rows = (rows + 1) * next_steps (length names)

-- to find the positions K that are read, to build what the rows are taken from, to go to the place after the cursor's row, and to
-- take so many rows
abbrev pub stated_steps : Bool → QueryTree → List VarName → List ℕ → (ℕ → Bool) → Option SpanRow → ℕ → ℕ
stated_steps filter q names d K after rows = begin_steps filter q d K after + row_steps names rows

-- at most so many were taken, by the set of the positions that are read
abbrev pub KeepsWithin : Bool → QueryTree → List ℕ → ((ℕ → Bool) → ℕ) → Clock → Type 0
KeepsWithin filter q d steps c = (K : ℕ → Bool) → AreRead filter q d K → TakesAtMost c (steps K)
