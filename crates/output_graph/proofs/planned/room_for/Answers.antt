use Rattle.std.proofs.Common.{length, ap, subst, arith}
use Rattle.std.proofs.Math.ListN.{drop_of_length-le}
use Rattle.output_graph.specs.Planned.{AreWithin, codes_long}
use Rattle.output_graph.proofs.PlannedLaws.{left_is}
use Rattle.output_graph.proofs.planned.room_for.Goals as goal

pub lists_at-lists-requires-clause-within : goal.lists_at-lists-requires-clause-within
lists_at-lists-requires-clause-within c =
    (subst (λ ps. AreWithin (length c.args.pool.now.parts.items) ps) (left_is c.args.planned.now c.loop-one.one-index c.loop-one-test.true) c.loop-one.invariant.within).0

pub loop-one-preserved : goal.loop-one-preserved
loop-one-preserved c =
    let here = left_is c.args.planned.now c.loop-one.one-index c.loop-one-test.true in
    let long = ap (codes_long c.args.pool.now.parts.items) here in
    let sum = c.in-Some.ensures.1 in
    record {
      within = (subst (λ ps. AreWithin (length c.args.pool.now.parts.items) ps) here c.loop-one.invariant.within).1;
      room = omega (arith, c.loop-one.invariant.room, long, sum, c.lists_at-lists.ensures.code);
    }

pub returns : goal.returns
returns c = omega (arith, ap (codes_long c.args.pool.now.parts.items) (drop_of_length-le c.args.planned.now c.loop-one-test.false), c.loop-one.invariant.room)
