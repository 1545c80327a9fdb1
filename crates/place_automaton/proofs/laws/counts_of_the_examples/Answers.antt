use Rattle.std.proofs.Common.{refl}
use Rattle.place_automaton.proofs.laws.counts_of_the_examples.Goals as goal

pub returns : goal.returns
returns c = (refl, refl, refl, refl, refl, refl, refl, refl, refl, refl, refl)
