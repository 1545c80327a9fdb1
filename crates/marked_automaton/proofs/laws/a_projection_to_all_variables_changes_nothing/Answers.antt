use Rattle.marked_automaton.proofs.Keeping.{keeping_law}
use Rattle.marked_automaton.proofs.laws.a_projection_to_all_variables_changes_nothing.Goals as goal

pub returns : goal.returns
returns c = keeping_law
