use Rattle.spanner_engine.proofs.Costs.{reduct_costs}
use Rattle.spanner_engine.proofs.laws.reading_a_reduct_costs_no_more.Goals as goal

pub returns : goal.returns
returns c = reduct_costs
