use Rattle.spanner_engine.proofs.QueryWaiting.{query_waits}
use Rattle.spanner_engine.proofs.laws.queries_wait_outside.Goals as goal

pub returns : goal.returns
returns c = query_waits
