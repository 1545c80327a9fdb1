use Rattle.spanner_model.proofs.OptionalRows.{optional_rows}
use Rattle.spanner_model.proofs.examples.optional_rows.Goals as goal

pub returns : goal.returns
returns c = optional_rows
