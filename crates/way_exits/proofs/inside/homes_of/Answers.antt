use Rattle.std.proofs.Common.{subst}
use Rattle.std.proofs.lemmas.List.{take_all}
use Rattle.way_exits.specs.Regions.{region_of}
use Rattle.way_exits.proofs.RegionLaws.{AllLeadTo, NoneSpoil, lead_more, spoil_more}
use Rattle.way_exits.proofs.inside.homes_of.Goals as goal

pub loop-state-preserved : goal.loop-state-preserved
loop-state-preserved c =
    lead_more c.args.ways.now c.args.states.now c.loop-state.state-index c.loop-state.homes c.bytes_to.result c.meet-homes.result c.loop-state-test.true c.loop-state.invariant c.bytes_to.ensures
    c.meet-homes.ensures

pub loop-way-init : goal.loop-way-init
loop-way-init c = (
  subst (λ ss. AllLeadTo c.args.ways.now c.args.states.now ss c.loop-state.homes) (take_all c.loop-state.state-index c.args.states.now c.loop-state-test.false) c.loop-state.invariant,
  λ b h y none. absurd none,
)

pub loop-way-preserved : goal.loop-way-preserved
loop-way-preserved c = (
  λ b h. c.loop-way.invariant.0 b (c.unspoilt-homes.ensures.before b h),
  spoil_more c.args.ways.now c.loop-way.way-index c.way-item.result c.args.states.now (region_of c.args.members.now) c.loop-way.homes c.unspoilt-homes.result c.loop-way-test.true c.way-item.is
      c.loop-way.invariant.1 c.unspoilt-homes.ensures.before c.unspoilt-homes.ensures.homes,
)

pub returns : goal.returns
returns c b h = record {
  unspoilt =
      subst (λ ys. NoneSpoil ys c.args.states.now (region_of c.args.members.now) c.loop-way.homes) (take_all c.loop-way.way-index c.args.ways.now c.loop-way-test.false) c.loop-way.invariant.1 b h;
  each = c.loop-way.invariant.0 b h;
}
