use Rattle.spanner_model.proofs.FunctionalLaws.{functional_sequential, functional_sure}
use Rattle.spanner_model.proofs.laws.functional_formulas_are_sequential.Goals as goal

pub returns : goal.returns
returns c = λ f ok. (functional_sequential f ok, λ x v. functional_sure f x ok v)
