use Rattle.std.proofs.Common.{subst}
use Rattle.std.proofs.lemmas.List.{take_all}
use Rattle.way_exits.specs.Regions.{region_of}
use Rattle.way_exits.proofs.RegionLaws.{AllKill, kill_more}
use Rattle.way_exits.proofs.inside.kills_of.Goals as goal

pub loop-way-init : goal.loop-way-init
loop-way-init c b h = record { inside = λ y none from byte. none; outside = λ y none from byte. absurd none }

pub loop-way-preserved : goal.loop-way-preserved
loop-way-preserved c =
    kill_more c.args.ways.now c.loop-way.way-index c.way-item.result c.args.states.now (region_of c.args.members.now) c.loop-way.kills c.spared-kills.result c.loop-way-test.true c.way-item.is
    c.loop-way.invariant c.spared-kills.ensures.before c.spared-kills.ensures.kills

pub returns : goal.returns
returns c =
    subst (λ ys. AllKill ys c.args.states.now (region_of c.args.members.now) c.loop-way.kills) (take_all c.loop-way.way-index c.args.ways.now c.loop-way-test.false) c.loop-way.invariant
