use Rattle.spanner_model.proofs.NameLaws.{same_names}
use Rattle.spanner_model.proofs.laws.result_names_are_one.Goals as goal

pub returns : goal.returns
returns c = λ q names others a b. same_names names others a.0 b.0 (λ x h. (b.1 x).1 ((a.1 x).0 h)) (λ x h. (a.1 x).1 ((b.1 x).0 h))
