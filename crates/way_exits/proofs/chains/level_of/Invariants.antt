use Rattle.std.proofs.Common.{take}
use Rattle.way_exits.specs.Waiting.{IsLevel}
use Rattle.way_exits.proofs.chains.level_of.Given as goal

abbrev pub invariant-loop-way : goal.invariant-loop-way
invariant-loop-way l = IsLevel l.leaving (take l.way-index l.ways) l.from l.level.bytes l.level.next.items
