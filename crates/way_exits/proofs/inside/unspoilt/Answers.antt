use Rattle.way_exits.specs.Regions.{region_of}
use Rattle.way_exits.proofs.RegionLaws.{out_of, unspoilt_without}
use Rattle.way_exits.proofs.inside.unspoilt.Goals as goal

pub returns-then-spoils-clause-before : goal.returns-then-spoils-clause-before
returns-then-spoils-clause-before c b h = (out_of c.args.homes.now c.args.way.now.bytes c.without.result c.without.ensures b h).0

pub returns-then-spoils-clause-homes : goal.returns-then-spoils-clause-homes
returns-then-spoils-clause-homes c =
    unspoilt_without c.args.way.now c.args.states.now (region_of c.args.members.now) c.args.homes.now c.without.result c.without.ensures
