use Rattle.rematch_program.proofs.FetchedLaws as law
use Rattle.rematch_program.proofs.laws.names_are_fetched_once.Goals as goal

pub returns : goal.returns
returns c = record { in_order = law.fetched_in_order; once = law.fetched_once; nothing = law.nothing_fetched }
