use Rattle.marked_automaton.proofs.ReductWords.{reduct_accepts}
use Rattle.marked_automaton.proofs.laws.a_reduct_accepts_what_it_reduces_accepts.Goals as goal

pub returns : goal.returns
returns c = reduct_accepts
