use Rattle.std.proofs.Common.{[], get_or, refl}
use Rattle.span_core.specs.Lists.{Has}
use Rattle.spanner_model.specs.Tree.{one}
use Rattle.spanner_model.specs.Fit.{Fit}
use Rattle.plain_spanner.specs.Listed.{LeadsOn}
use Rattle.plain_spanner.proofs.TellsLaws.{from_none, from_more, from_all, tells_only}
use Rattle.plain_spanner.proofs.ends.after_byte.Goals as goal

pub loop-start-init : goal.loop-start-init
loop-start-init c = rw c.new-ends.ensures.items (from_none (λ i j. Fit (one c.args.set.now) c.args.doc.now i j []) (Has []))

pub loop-start-preserved : goal.loop-start-preserved
loop-start-preserved c =
    from_more (λ i j. Fit (one c.args.set.now) c.args.doc.now i j []) (Has []) (Has c.loop-start.ends.items) (Has c.add_after_byte.new.ends.items) c.args.starts.now c.loop-start.start-index
    (get_or c.args.starts.now c.loop-start.start-index 0) 0 c.loop-start-test.true refl c.loop-start.invariant c.in_ok-add_after_byte.ensures

pub returns : goal.returns
returns c =
    tells_only (Has c.loop-start.ends.items) (Has []) (LeadsOn (Fit (one c.args.set.now) c.args.doc.now) c.args.starts.now) (λ x h. h)
    (from_all (λ i j. Fit (one c.args.set.now) c.args.doc.now i j []) (Has []) (Has c.loop-start.ends.items) c.args.starts.now
    c.loop-start.start-index c.loop-start.auto.start-index-end c.loop-start-test.false c.loop-start.invariant)
