use Rattle.std.proofs.Common.{take}
use Rattle.way_exits.proofs.RegionLaws.{AllHome}
use Rattle.way_exits.proofs.inside.home_by.Given as goal

abbrev pub invariant-loop-set : goal.invariant-loop-set
invariant-loop-set l = AllHome l.ways l.members l.text (take l.set-index l.sets) l.homes
