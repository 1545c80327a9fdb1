use Rattle.spanner_model.proofs.AnswerLaws.{query_given}
use Rattle.spanner_model.proofs.laws.answers_give_the_sure.Goals as goal

pub returns : goal.returns
returns c = λ q d m h x v. query_given q d m h x v
