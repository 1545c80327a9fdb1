use Rattle.spanner_model.proofs.OptionalRows.{maybe_rows}
use Rattle.spanner_model.proofs.examples.maybe_rows.Goals as goal

pub returns : goal.returns
returns c = maybe_rows
