use Rattle.marked_automaton.proofs.Reversal.{reversal_law}
use Rattle.marked_automaton.proofs.laws.reversed_automata_accept_reversed_documents.Goals as goal

pub returns : goal.returns
returns c = reversal_law
