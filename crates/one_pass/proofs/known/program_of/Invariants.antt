use Rattle.std.proofs.Common.{take}
use Rattle.one_pass.specs.Known.{AreLookUps}
use Rattle.one_pass.proofs.known.program_of.Given as goal

abbrev pub invariant-loop-set : goal.invariant-loop-set
invariant-loop-set l = AreLookUps l.table l.byte (take l.set-index l.sets) l.program.groups
