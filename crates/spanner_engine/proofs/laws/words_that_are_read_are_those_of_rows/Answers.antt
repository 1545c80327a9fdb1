use Rattle.spanner_engine.proofs.RowLaws.{words_are_of_rows}
use Rattle.spanner_engine.proofs.laws.words_that_are_read_are_those_of_rows.Goals as goal

pub returns : goal.returns
returns c = words_are_of_rows
