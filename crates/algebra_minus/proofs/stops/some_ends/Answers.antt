use Rattle.std.proofs.Common.{refl, sym, ◌∙◌}
use Rattle.std.proofs.lemmas.Bool.{true≢false}
use Rattle.algebra.proofs.Alike.{Has-item}
use Rattle.algebra_minus.specs.Found.{EndsIn}
use Rattle.algebra_minus.proofs.Ends.{ends_more}
use Rattle.algebra_minus.proofs.stops.some_ends.Goals as goal

pub returns-then-ends_so : goal.returns-then-ends_so
returns-then-ends_so c =
    let stops = c.args.stops.now in
    let x = c.stop-item.result in
    let so = c.ends_so.ensures.0 c.if-ends_so.true in
    let here : EndsIn stops c.args.set.now c.args.marks =
    (x.state, so.1, rw (← so.0) (Has-item stops stops c.loop-stop.stop-index x refl c.loop-stop-test.true c.stop-item.is)) in
    ((λ t. here), (λ h. refl))

pub loop-stop-preserved : goal.loop-stop-preserved
loop-stop-preserved c =
    ends_more c.args.stops.now c.args.set.now c.args.marks c.loop-stop.stop-index c.stop-item.result c.loop-stop-test.true c.stop-item.is
    (λ h. true≢false (sym (c.ends_so.ensures.1 h) ∙ c.if-ends_so.false)) c.loop-stop.invariant
