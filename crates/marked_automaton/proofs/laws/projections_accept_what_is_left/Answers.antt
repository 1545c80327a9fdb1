use Rattle.marked_automaton.proofs.Projections.{projection_law}
use Rattle.marked_automaton.proofs.laws.projections_accept_what_is_left.Goals as goal

pub returns : goal.returns
returns c = projection_law
