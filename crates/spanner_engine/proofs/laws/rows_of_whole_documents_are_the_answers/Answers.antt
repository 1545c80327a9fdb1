use Rattle.spanner_engine.proofs.RowLaws.{whole_rows}
use Rattle.spanner_engine.proofs.laws.rows_of_whole_documents_are_the_answers.Goals as goal

pub returns : goal.returns
returns c = whole_rows
