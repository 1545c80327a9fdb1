use Rattle.marked_automaton.proofs.Rearranged.{permutation_rearranges}
use Rattle.marked_automaton.proofs.laws.a_permutation_of_the_ways_rearranges.Goals as goal

pub returns : goal.returns
returns c = permutation_rearranges
