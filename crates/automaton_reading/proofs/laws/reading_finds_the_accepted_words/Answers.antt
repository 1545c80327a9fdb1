use Rattle.automaton_reading.proofs.Determined.{reading_law}
use Rattle.automaton_reading.proofs.laws.reading_finds_the_accepted_words.Goals as goal

pub returns : goal.returns
returns c = reading_law
