use Rattle.std.proofs.Common.{ℕ, List, subst}
use Rattle.std.proofs.lemmas.List.{take_all}
use Rattle.way_exits.specs.Home.{BringsHome, IsHomeRegion}
use Rattle.way_exits.specs.Regions.{depth_of, region_of}
use Rattle.way_exits.proofs.RegionLaws.{AllHome, home_more, home_region, home_so}
use Rattle.way_exits.proofs.inside.home_by.Goals as goal

pub loop-set-init : goal.loop-set-init
loop-set-init c v none = absurd none

pub loop-set-preserved : goal.loop-set-preserved
loop-set-preserved c =
    let ways = c.args.ways.now in
    let members = c.args.members.now in
    let text = c.args.text.now in
    home_more ways members text c.args.sets.now c.loop-set.set-index c.set-item.result c.loop-set.homes c.homes_of.result c.meet-homes.result c.loop-set-test.true c.set-item.is
    c.loop-set.invariant
    (subst (λ (xs : List ℕ). IsHomeRegion ways xs (region_of members) (depth_of members) text) c.as_slice-states.ensures.value
    (home_region ways c.as_slice-states.result.now members text (c.begins.ensures c.if-not-begins.false) (c.is_region.ensures c.if-not-is_region.false)))
    (λ b h. subst (λ (xs : List ℕ). BringsHome ways xs (region_of members) b) c.as_slice-states.ensures.value (c.homes_of.ensures b h)) c.meet-homes.ensures

pub returns : goal.returns
returns c =
    let ways = c.args.ways.now in
    let members = c.args.members.now in
    let text = c.args.text.now in
    home_so ways c.args.sets.now members text c.loop-set.homes c.new.result
    (subst (λ ys. AllHome ways members text ys c.loop-set.homes) (take_all c.loop-set.set-index c.args.sets.now c.loop-set-test.false) c.loop-set.invariant)
    c.new.ensures.text c.new.ensures.kills
