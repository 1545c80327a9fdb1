use Rattle.std.proofs.Common.{take}
use Rattle.way_exits.proofs.RegionLaws.{AllBegin}
use Rattle.way_exits.proofs.inside.begins.Given as goal

abbrev pub invariant-loop-state : goal.invariant-loop-state
invariant-loop-state l = AllBegin l.ways l.members (take l.state-index l.states)
