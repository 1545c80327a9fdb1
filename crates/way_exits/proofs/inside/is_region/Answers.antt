use Rattle.std.proofs.Common.{sym, subst}
use Rattle.std.proofs.lemmas.List.{take_all}
use Rattle.span_core.specs.Lists.{Has}
use Rattle.way_exits.proofs.RegionLaws.{fit_more}
use Rattle.way_exits.proofs.inside.is_region.Goals as goal

pub loop-way-preserved : goal.loop-way-preserved
loop-way-preserved c =
    fit_more c.args.states.now c.args.members.now c.args.text.now c.args.ways.now c.loop-way.way-index c.way-item.result c.loop-way-test.true c.way-item.is c.loop-way.invariant
    (record { enters = c.enters.ensures c.if-not-enters.false; stays = c.stays.ensures c.if-not-stays.false })

pub returns : goal.returns
returns c is y h = c.loop-way.invariant y (subst (λ ys. Has ys y) (sym (take_all c.loop-way.way-index c.args.ways.now c.loop-way-test.false)) h)
