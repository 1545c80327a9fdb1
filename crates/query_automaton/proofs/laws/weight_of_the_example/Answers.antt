use Rattle.query_automaton.proofs.FarBack.{weight_of_the_example}
use Rattle.query_automaton.proofs.laws.weight_of_the_example.Goals as goal

pub returns : goal.returns
returns c = weight_of_the_example
