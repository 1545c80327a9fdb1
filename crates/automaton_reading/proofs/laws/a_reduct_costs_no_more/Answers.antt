use Rattle.automaton_reading.proofs.MeasureLaws.{reduct_measures}
use Rattle.automaton_reading.proofs.laws.a_reduct_costs_no_more.Goals as goal

pub returns : goal.returns
returns c = reduct_measures
