use Rattle.functional_check.proofs.FaultLaws.{no_fault}
use Rattle.functional_check.proofs.laws.sequential_have_no_fault.Goals as goal

pub returns : goal.returns
returns c = λ f e ok h. no_fault f e ok h
