use Rattle.functional_check.proofs.NumberedLaws.{both_bits}
use Rattle.functional_check.proofs.name_bits.NameBits.meet.Goals as goal

pub returns : goal.returns
returns c = λ k. both_bits c.args.self.bits c.args.other.bits k
