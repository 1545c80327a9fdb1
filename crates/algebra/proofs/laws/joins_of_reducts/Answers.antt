use Rattle.algebra.proofs.ReductJoins.{reduct_of_join}
use Rattle.algebra.proofs.laws.joins_of_reducts.Goals as goal

pub returns : goal.returns
returns c = reduct_of_join
