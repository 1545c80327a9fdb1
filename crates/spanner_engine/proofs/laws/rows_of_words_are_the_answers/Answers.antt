use Rattle.spanner_engine.proofs.RowLaws.{rows_are_answers}
use Rattle.spanner_engine.proofs.laws.rows_of_words_are_the_answers.Goals as goal

pub returns : goal.returns
returns c = rows_are_answers
