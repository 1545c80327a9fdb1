use Rattle.place_automaton.proofs.CountLaws.{count_law}
use Rattle.place_automaton.proofs.laws.counts_are_those_of_the_automaton.Goals as goal

pub returns : goal.returns
returns c = count_law
