use Rattle.spanner_model.proofs.FitLaws.{fit_only_vars, fit_sure}
use Rattle.spanner_model.proofs.laws.sequential_fits_give_the_sure.Goals as goal

pub returns : goal.returns
returns c = λ f d i j m ok h x. (fit_sure f d i j m h x, fit_only_vars f d i j m h x)
