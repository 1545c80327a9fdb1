-- Rows under tests, whose answers are borrowed.
use Rattle.span_tests.specs.declared.judge.Ask.{Ghosts as OfCalls}
use Rattle.span_tests.specs.declared.judge.Judge.{Ghosts as OfTests}
use Rattle.spanner_engine.specs.Left.{RowsLeft, over}
use Rattle.spanner_engine.specs.declared.rows.TestedRows.{TestedRows}

-- the rows are seen as what they are taken from, and as what their answers are now
module _ {J C : Type 0} {judges : OfTests J C} {calls : OfCalls C} where
  abbrev pub left_in : TestedRows J C judges calls → RowsLeft
  left_in r = record {
    source = over r.tested.now.asked r.tests.now r.vars.now r.document.now;
    rest = r.answers.now.rest;
    row = r.answers.now.row;
  }
