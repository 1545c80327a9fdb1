use Rattle.std.proofs.Common.{take}
use Rattle.way_exits.proofs.RegionLaws.{AllFit}
use Rattle.way_exits.proofs.inside.is_region.Given as goal

abbrev pub invariant-loop-way : goal.invariant-loop-way
invariant-loop-way l = AllFit l.states l.members l.text (take l.way-index l.ways)
