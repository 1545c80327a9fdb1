use Rattle.std.proofs.Common.{take}
use Rattle.way_exits.specs.Regions.{region_of}
use Rattle.way_exits.proofs.RegionLaws.{AllLeadTo, NoneSpoil}
use Rattle.way_exits.proofs.inside.homes_of.Given as goal

abbrev pub invariant-loop-state : goal.invariant-loop-state
invariant-loop-state l = AllLeadTo l.ways l.states (take l.state-index l.states) l.homes

abbrev pub invariant-loop-way : goal.invariant-loop-way
invariant-loop-way l = AllLeadTo l.ways l.states l.states l.homes × NoneSpoil (take l.way-index l.ways) l.states (region_of l.members) l.homes
