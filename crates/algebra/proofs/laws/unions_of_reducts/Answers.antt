use Rattle.algebra.proofs.ReductUnions.{reduct_of_union}
use Rattle.algebra.proofs.laws.unions_of_reducts.Goals as goal

pub returns : goal.returns
returns c = reduct_of_union
