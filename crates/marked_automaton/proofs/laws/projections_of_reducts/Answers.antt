use Rattle.marked_automaton.proofs.ReductOperations.{reduct_of_projection}
use Rattle.marked_automaton.proofs.laws.projections_of_reducts.Goals as goal

pub returns : goal.returns
returns c = reduct_of_projection
