use Rattle.std.proofs.Common.{take}
use Rattle.way_exits.proofs.RegionLaws.{HasNone}
use Rattle.way_exits.proofs.inside.depth_at.Given as goal

abbrev pub invariant-loop-member : goal.invariant-loop-member
invariant-loop-member l = HasNone (take l.member-index l.members) l.state
