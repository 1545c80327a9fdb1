use Rattle.std.proofs.Common.{arith}
use Rattle.functional_check.proofs.NumberedLaws.{bit_without}
use Rattle.functional_check.proofs.name_bits.NameBits.without.Goals as goal

pub returns : goal.returns
returns c = λ k. bit_without c.args.self.bits c.args.other.bits k (omega arith) (omega arith)
