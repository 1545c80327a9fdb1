use Rattle.spanner_model.proofs.RowOrder.{answers_one}
use Rattle.spanner_model.proofs.laws.answers_are_one.Goals as goal

pub returns : goal.returns
returns c = λ q d names rows others a b. answers_one q d names rows others a b
