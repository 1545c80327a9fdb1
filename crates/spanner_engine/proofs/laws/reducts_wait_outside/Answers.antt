use Rattle.spanner_engine.proofs.OperationsWait.{reduct_waits}
use Rattle.spanner_engine.proofs.laws.reducts_wait_outside.Goals as goal

pub returns : goal.returns
returns c = reduct_waits
