use Rattle.spanner_engine.proofs.RowLaws.{compiled_rows}
use Rattle.spanner_engine.proofs.laws.compiled_queries_accept_words_of_rows.Goals as goal

pub returns : goal.returns
returns c = compiled_rows
