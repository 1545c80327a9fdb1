use Rattle.functional_check.proofs.NumberedLaws.{either_bit}
use Rattle.functional_check.proofs.name_bits.NameBits.union.Goals as goal

pub returns : goal.returns
returns c = λ k. either_bit c.args.self.bits c.args.other.bits k
