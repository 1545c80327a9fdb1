use Rattle.spanner_model.proofs.PartLaws.{join_outside, join_each, each_join, told_under}
use Rattle.spanner_model.specs.Answer.{vars_of_lets, answers_of_lets}
use Rattle.spanner_model.proofs.laws.joins_answer_for_each_part.Goals as goal

pub returns : goal.returns
returns c = λ lets d n parts m.
    let V = vars_of_lets lets n in
    let A = answers_of_lets lets d n in
    (λ h. (join_outside V A d parts m h, join_each V A d parts m h), λ p. each_join V A d (told_under lets n) parts m p.0 p.1)
