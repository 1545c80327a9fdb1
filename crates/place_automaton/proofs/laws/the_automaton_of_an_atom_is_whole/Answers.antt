use Rattle.place_automaton.proofs.WholeLaws.{whole_law}
use Rattle.place_automaton.proofs.laws.the_automaton_of_an_atom_is_whole.Goals as goal

pub returns : goal.returns
returns c = whole_law
