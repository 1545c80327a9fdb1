use Rattle.std.proofs.Common.{take}
use Rattle.functional_check.specs.Numbered.{members}
use Rattle.functional_check.proofs.SureLaws.{AreShared}
use Rattle.functional_check.proofs.name_bits.NameBits.listed.Given as goal

abbrev pub invariant-loop-k : goal.invariant-loop-k
invariant-loop-k l = AreShared (take l.k l.names) (members l.names l.self) l.listed
