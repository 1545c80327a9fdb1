use Rattle.std.proofs.Common.{take}
use Rattle.way_exits.specs.Regions.{region_of}
use Rattle.way_exits.proofs.RegionLaws.{AllKill}
use Rattle.way_exits.proofs.inside.kills_of.Given as goal

abbrev pub invariant-loop-way : goal.invariant-loop-way
invariant-loop-way l = AllKill (take l.way-index l.ways) l.states (region_of l.members) l.kills
