use Rattle.marked_automaton.proofs.Erasing.{erasing_law}
use Rattle.marked_automaton.proofs.laws.kept_marks_are_those_of_the_kept_row.Goals as goal

pub returns : goal.returns
returns c = erasing_law
