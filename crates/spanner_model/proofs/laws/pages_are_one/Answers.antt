use Rattle.spanner_model.proofs.RowOrder.{pages_one}
use Rattle.spanner_model.proofs.laws.pages_are_one.Goals as goal

pub returns : goal.returns
returns c = λ q d names after limit page other more more' h g. pages_one q d names after limit page other more more' h g
