use Rattle.place_automaton.proofs.PlainCountLaws.{functional_counts}
use Rattle.place_automaton.proofs.laws.counts_of_functional_formulas.Goals as goal

pub returns : goal.returns
returns c = functional_counts
