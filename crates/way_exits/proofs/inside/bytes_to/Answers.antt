use Rattle.std.proofs.Common.{inl, inr, sym, subst, ap, ◌∙◌}
use Rattle.std.specs.FinSet as bytes
use Rattle.std.specs.FinSet.{contains-empty}
use Rattle.std.specs.Ordering.{nat_cmp}
use Rattle.span_core.specs.Lists.{Has}
use Rattle.span_core.proofs.HasLaws.{Has-get_or}
use Rattle.way_exits.specs.Home.{LeadsTo}
use Rattle.way_exits.proofs.WaitLaws.{differ}
use Rattle.way_exits.proofs.inside.bytes_to.Goals as goal

pub loop-way-init : goal.loop-way-init
loop-way-init c b h = absurd (differ (sym (contains-empty nat_cmp b) ∙ (ap (λ s. bytes.contains s b) (sym c.empty-taken.ensures) ∙ h)))

pub loop-way-preserved : goal.loop-way-preserved
loop-way-preserved c b h =
    elim (c.with_bytes-taken.ensures b h) as (λ _. LeadsTo c.args.ways.now c.args.states.now c.args.state b) [
      | inl old ↦ c.loop-way.invariant b old
      | inr here ↦ (
        c.way-item.result,
        subst (Has c.args.ways.now) (sym c.way-item.is) (Has-get_or c.args.ways.now c.loop-way.way-index c.way-item.result c.loop-way-test.true),
        here.0,
        here.1,
        here.2,
        here.3,
      )
    ]
