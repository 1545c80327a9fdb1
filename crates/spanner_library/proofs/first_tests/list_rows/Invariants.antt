use Rattle.std.proofs.Common.{◌≡◌, ◌*◌, length}
use Rattle.spanner_engine.specs.Fitting.{AreLast}
use Rattle.spanner_library.specs.Library.{tree}
use Rattle.spanner_library.specs.declared.first_tests.TheConstants.{MOST_ROWS}
use Rattle.spanner_library.proofs.first_tests.list_rows.Given as goal

-- the rows that are still to come are the last, and there is room for those of one call
abbrev pub invariant-loop-numbers : goal.invariant-loop-numbers
invariant-loop-numbers g l = record {
  last : AreLast (tree l.query).query l.document l.query.names l.rows.rest;
  room : length l.numbers.items ≡ MOST_ROWS * (2 * length l.query.names);
}

abbrev pub decreases-loop-numbers : goal.decreases-loop-numbers
decreases-loop-numbers g l = length l.rows.rest
