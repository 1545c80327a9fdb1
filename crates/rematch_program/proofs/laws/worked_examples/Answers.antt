use Rattle.rematch_program.proofs.WorkedLaws as law
use Rattle.rematch_program.proofs.laws.worked_examples.Goals as goal

pub returns : goal.returns
returns c = record { notes = law.note_examples; sizes = law.size_examples }
