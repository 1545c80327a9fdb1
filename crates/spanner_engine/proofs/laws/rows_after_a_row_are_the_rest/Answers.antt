use Rattle.spanner_engine.proofs.RowLaws.{rows_after}
use Rattle.spanner_engine.proofs.laws.rows_after_a_row_are_the_rest.Goals as goal

pub returns : goal.returns
returns c = rows_after
