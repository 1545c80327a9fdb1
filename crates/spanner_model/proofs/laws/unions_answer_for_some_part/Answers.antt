use Rattle.spanner_model.proofs.PartLaws.{union_some, some_union}
use Rattle.spanner_model.specs.Answer.{vars_of_lets, answers_of_lets}
use Rattle.spanner_model.proofs.laws.unions_answer_for_some_part.Goals as goal

pub returns : goal.returns
returns c = λ lets d n parts m.
    let V = vars_of_lets lets n in
    let A = answers_of_lets lets d n in
    (λ h. union_some V A d parts m h, λ p. some_union V A d parts m p.0 p.1 p.2)
