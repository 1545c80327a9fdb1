use Rattle.marked_automaton.proofs.ReductWords.{image_law}
use Rattle.marked_automaton.proofs.laws.sets_of_a_reduct_are_images.Goals as goal

pub returns : goal.returns
returns c = image_law
