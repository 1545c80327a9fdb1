use Rattle.spanner_engine.proofs.OperationsWait.{projection_waits}
use Rattle.spanner_engine.proofs.laws.projections_wait_outside.Goals as goal

pub returns : goal.returns
returns c = projection_waits
