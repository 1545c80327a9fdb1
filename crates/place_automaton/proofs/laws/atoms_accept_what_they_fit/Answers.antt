use Rattle.place_automaton.proofs.AtomLaws.{atom_law}
use Rattle.place_automaton.proofs.laws.atoms_accept_what_they_fit.Goals as goal

pub returns : goal.returns
returns c = atom_law
