use Rattle.spanner_engine.proofs.ReadPositions.{read_are_a_set}
use Rattle.spanner_engine.proofs.laws.read_positions_are_a_set.Goals as goal

pub returns : goal.returns
returns c = read_are_a_set
