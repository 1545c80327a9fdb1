use Rattle.place_automaton.proofs.RowBlocks.{atom_row_law}
use Rattle.place_automaton.proofs.laws.atoms_accept_the_words_of_their_rows.Goals as goal

pub returns : goal.returns
returns c = atom_row_law
