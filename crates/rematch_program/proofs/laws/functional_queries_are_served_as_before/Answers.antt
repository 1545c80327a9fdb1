use Rattle.rematch_program.proofs.AsBeforeLaws as law
use Rattle.rematch_program.proofs.laws.functional_queries_are_served_as_before.Goals as goal

pub returns : goal.returns
returns c = law.as_before
