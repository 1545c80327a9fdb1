use Rattle.spanner_model.proofs.RowOrder.{pages_join}
use Rattle.spanner_model.proofs.laws.pages_join.Goals as goal

pub returns : goal.returns
returns c = λ q d names after a b page next more more' h g. pages_join q d names after a b page next more more' h g
