use Rattle.std.proofs.Common.{arith}
use Rattle.byte_runs.proofs.ChainLaws.{kept_more, kept_past}
use Rattle.byte_runs.proofs.chain.first_kept.Goals as goal

pub returns-then-place-bytes-clause-none : goal.returns-then-place-bytes-clause-none
returns-then-place-bytes-clause-none c = kept_more c.args.sets.now c.args.bytes.now c.loop.place c.next_stop-place.result c.loop.invariant.1 c.next_stop-place.ensures.none

pub returns-then-keep_to-clause-none : goal.returns-then-keep_to-clause-none
returns-then-keep_to-clause-none c = kept_more c.args.sets.now c.args.bytes.now c.loop.place c.next_stop-place.result c.loop.invariant.1 c.next_stop-place.ensures.none

pub loop-preserved : goal.loop-preserved
loop-preserved c =
    let stop = c.next_stop-place.result in (
      omega (arith, c.next_stop-place.ensures.within, c.if-place-bytes.false),
      kept_past c.args.sets.now c.args.bytes.now stop (kept_more c.args.sets.now c.args.bytes.now c.loop.place stop c.loop.invariant.1
          c.next_stop-place.ensures.none) (c.keep_to.ensures c.if-keep_to.false),
    )
