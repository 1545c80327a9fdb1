use Rattle.place_automaton.proofs.BuiltRepeats.{ordered_repeats}
use Rattle.place_automaton.proofs.laws.well_built_formulas_have_ordered_repeats.Goals as goal

pub returns : goal.returns
returns c = ordered_repeats
