use Rattle.std.proofs.Common.{take}
use Rattle.one_pass.specs.Known.{AreAlike}
use Rattle.one_pass.proofs.known.are_alike.Given as goal

abbrev pub invariant-loop-set : goal.invariant-loop-set
invariant-loop-set l = AreAlike l.table l.byte l.other (take l.set-index l.sets)
