use Rattle.spanner_engine.proofs.OperationsWait.{join_waits}
use Rattle.spanner_engine.proofs.laws.joins_wait_outside.Goals as goal

pub returns : goal.returns
returns c = join_waits
