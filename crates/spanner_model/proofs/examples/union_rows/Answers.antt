use Rattle.spanner_model.proofs.OptionalRows.{union_rows}
use Rattle.spanner_model.proofs.examples.union_rows.Goals as goal

pub returns : goal.returns
returns c = union_rows
