use Rattle.spanner_engine.proofs.OperationsWait.{union_waits}
use Rattle.spanner_engine.proofs.laws.unions_wait_outside.Goals as goal

pub returns : goal.returns
returns c = union_waits
