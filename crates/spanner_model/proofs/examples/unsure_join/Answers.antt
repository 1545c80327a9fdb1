use Rattle.spanner_model.proofs.OptionalRows.{unsure_join}
use Rattle.spanner_model.proofs.examples.unsure_join.Goals as goal

pub returns : goal.returns
returns c = unsure_join
