use Rattle.spanner_engine.proofs.QueryWaiting.{query_reading}
use Rattle.spanner_engine.proofs.laws.queries_are_read_at_what_their_atoms_touch.Goals as goal

pub returns : goal.returns
returns c = query_reading
