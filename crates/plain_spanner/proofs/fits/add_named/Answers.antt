use Rattle.span_core.specs.Lists.{Has}
use Rattle.span_core.proofs.HasLaws.{Has-get_or}
use Rattle.plain_spanner.specs.Listed.{CapturesAndEnds, HasFit, CapturedAt}
use Rattle.plain_spanner.proofs.TellsLaws.{from_none, from_more, from_all}
use Rattle.plain_spanner.proofs.fits.add_named.Goals as goal

pub add_spans-requires : goal.add_spans-requires
add_spans-requires c = λ j h.
    let b = c.branch-item.result in
    let here : Has c.args.inner.now b = rw c.branch-item.is
    (Has-get_or c.args.inner.now c.loop-branch.branch-index b c.loop-branch-test.true) in
    c.requires (j, b.0) (b.1, here, h)

pub loop-branch-init : goal.loop-branch-init
loop-branch-init c = from_none (CapturedAt c.args.name.now c.args.place c.args.captures.now) (HasFit c.args.all.now.items)

pub loop-branch-preserved : goal.loop-branch-preserved
loop-branch-preserved c =
    from_more (CapturedAt c.args.name.now c.args.place c.args.captures.now) (HasFit c.args.all.now.items) (HasFit c.loop-branch.all.items)
    (HasFit c.add_spans.new.all.items) c.args.inner.now c.loop-branch.branch-index
    c.branch-item.result c.branch-item.result c.loop-branch-test.true c.branch-item.is c.loop-branch.invariant c.in_ok-add_spans.ensures

pub returns : goal.returns
returns c =
    from_all (CapturedAt c.args.name.now c.args.place c.args.captures.now) (HasFit c.args.all.now.items) (HasFit c.loop-branch.all.items)
    c.args.inner.now c.loop-branch.branch-index c.loop-branch.auto.branch-index-end c.loop-branch-test.false c.loop-branch.invariant
