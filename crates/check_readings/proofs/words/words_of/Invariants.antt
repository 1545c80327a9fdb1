use Rattle.check_readings.specs.Waiting.{AreThere}
use Rattle.check_readings.proofs.words.words_of.Given as goal

abbrev pub invariant-loop : goal.invariant-loop
invariant-loop g l = AreThere l.lists.store l.stack.items
