use Rattle.std.proofs.Common.{rules, arith, ◌≡◌, sym, ◌∙◌, true, false}
use Rattle.spanner_model.specs.Passing.{known}
use Rattle.spanner_engine.proofs.PassingLaws.{fails_at, known_at, passes_more}
use Rattle.spanner_engine.proofs.tested.all_hold.Goals as goal

pub holds-requires-clause-known : goal.holds-requires-clause-known
holds-requires-clause-known g c = known_at (known c.args.tests.now g.J.Judge.judges) c.args.asked.now c.loop-k.k c.at.result.now c.requires.bound c.at.ensures

pub returns-then-not-holds-clause-value : goal.returns-then-not-holds-clause-value
returns-then-not-holds-clause-value g c =
    let k = known c.args.tests.now g.J.Judge.judges in
    let no : c.holds.result ≡ false = search rules in
    sym (fails_at k c.args.vars.now c.args.doc.now c.args.spans.now c.args.asked.now c.loop-k.k c.at.result.now c.at.ensures (sym c.holds.ensures.value ∙ no))

pub loop-k-preserved : goal.loop-k-preserved
loop-k-preserved g c =
    let k = known c.args.tests.now g.J.Judge.judges in
    let yes : c.holds.result ≡ true = search rules in
    record {
      within = search (rules, arith);
      before = passes_more k c.args.vars.now c.args.doc.now c.args.spans.now c.args.asked.now c.loop-k.k c.at.result.now c.loop-k.invariant.before c.at.ensures (sym c.holds.ensures.value ∙ yes);
      steps = omega (arith, c.holds.ensures.steps, c.loop-k.invariant.steps);
    }
