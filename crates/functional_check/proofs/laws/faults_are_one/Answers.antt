use Rattle.functional_check.proofs.FaultLaws.{fault_one}
use Rattle.functional_check.proofs.laws.faults_are_one.Goals as goal

pub returns : goal.returns
returns c = λ f e g h k. fault_one f e g h k
