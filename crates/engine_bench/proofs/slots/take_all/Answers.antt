use Rattle.engine_bench.proofs.Names.{later_live}
use Rattle.engine_bench.proofs.slots.take_all.Goals as goal

pub loop-at-preserved : goal.loop-at-preserved
loop-at-preserved c k d le lt =
    let slot = c.index-names-at.result in
    rw c.take-sum.ensures.live (later_live c.loop-at.slots.live c.args.names.now c.loop-at.at slot c.index-names-at.is c.requires.distinct c.loop-at.invariant k d le lt)
