use Rattle.way_exits.specs.Regions.{region_of}
use Rattle.way_exits.proofs.RegionLaws.{kills_without, out_of}
use Rattle.way_exits.proofs.inside.spared.Goals as goal

pub returns-then-takes_part-clause-before : goal.returns-then-takes_part-clause-before
returns-then-takes_part-clause-before c b h = (out_of c.args.kills.now c.args.way.now.bytes c.without.result c.without.ensures b h).0

pub returns-then-takes_part-clause-kills : goal.returns-then-takes_part-clause-kills
returns-then-takes_part-clause-kills c =
    kills_without c.args.way.now c.args.states.now (region_of c.args.members.now) c.args.kills.now c.without.result c.without.ensures
