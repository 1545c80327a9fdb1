use Rattle.marked_automaton.proofs.Reducts.{reduct_of_reduct}
use Rattle.marked_automaton.proofs.laws.a_reduct_of_a_reduct_is_a_reduct.Goals as goal

pub returns : goal.returns
returns c = reduct_of_reduct
