use Rattle.marked_automaton.proofs.Sizes.{reduct_is_no_larger}
use Rattle.marked_automaton.proofs.laws.a_reduct_is_no_larger.Goals as goal

pub returns : goal.returns
returns c = reduct_is_no_larger
