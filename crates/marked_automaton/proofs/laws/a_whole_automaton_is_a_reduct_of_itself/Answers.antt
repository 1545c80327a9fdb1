use Rattle.marked_automaton.proofs.Rearranged.{reduct_of_itself}
use Rattle.marked_automaton.proofs.laws.a_whole_automaton_is_a_reduct_of_itself.Goals as goal

pub returns : goal.returns
returns c = reduct_of_itself
