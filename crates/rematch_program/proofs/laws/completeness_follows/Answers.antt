use Rattle.rematch_program.proofs.Completeness as law
use Rattle.rematch_program.proofs.laws.completeness_follows.Goals as goal

pub returns : goal.returns
returns c = law.completes
