use Rattle.one_pass.proofs.LawProofs.{back_law}
use Rattle.one_pass.proofs.laws.bytes_that_lead_back_are_passed_over.Goals as goal

pub returns : goal.returns
returns c = back_law
