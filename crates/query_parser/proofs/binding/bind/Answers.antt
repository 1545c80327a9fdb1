use Rattle.std.proofs.Common.{rules, arith, refl}
use Rattle.spanner_model.specs.Passing.{known}
use Rattle.query_parser.proofs.BindLaws.{known_more, named_of, not_named, unknown_at}
use Rattle.query_parser.proofs.binding.bind.Goals as goal

pub returns-then-is_none-clause-fault : goal.returns-then-is_none-clause-fault
returns-then-is_none-clause-fault g c =
    let not = not_named c.args.tests.now c.at-asked.result.now.test c.find.result (search rules) c.find.ensures.none in
    (c.at-asked.result.now.at, unknown_at (known c.args.tests.now g.J.Judge.judges) c.args.tested.now.asked c.loop-k.k c.at-asked.result.now c.loop-k.invariant.1 c.at-asked.ensures not, refl)

pub loop-k-preserved : goal.loop-k-preserved
loop-k-preserved g c =
    let there = named_of c.args.tests.now c.at-asked.result.now.test c.find.result (search rules) c.find.ensures.some in
    (search (rules, arith), known_more (known c.args.tests.now g.J.Judge.judges) c.args.tested.now.asked c.loop-k.k c.at-asked.result.now c.loop-k.invariant.1 c.at-asked.ensures there)
