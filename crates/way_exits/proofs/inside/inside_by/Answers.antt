use Rattle.way_exits.proofs.RegionLaws.{inside_so, region_is}
use Rattle.way_exits.proofs.inside.inside_by.Goals as goal

pub returns : goal.returns
returns c =
    let ways = c.args.ways.now in
    let states = c.args.states.now in
    let members = c.args.members.now in
    let text = c.args.text.now in
    inside_so ways states members text c.kills_of.result c.new.result (region_is ways states members text c.requires (c.is_region.ensures c.if-not-is_region.false)) c.kills_of.ensures
    c.new.ensures.text c.new.ensures.kills
