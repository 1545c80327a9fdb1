use Rattle.std.proofs.Common.{arith}
use Rattle.functional_check.proofs.NumberedLaws.{single_bit}
use Rattle.functional_check.proofs.name_bits.NameBits.single.Goals as goal

pub returns : goal.returns
returns c = λ k. single_bit c.args.number k (omega arith)
