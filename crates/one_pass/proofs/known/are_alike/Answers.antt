use Rattle.std.proofs.Common.{refl, arith}
use Rattle.one_pass.proofs.KnownLaws.{alike_more}
use Rattle.one_pass.proofs.known.are_alike.Goals as goal

pub loop-set-preserved : goal.loop-set-preserved
loop-set-preserved c = alike_more c.args.table.now c.args.byte c.args.other c.args.sets.now c.loop-set.set-index _ (omega arith) refl c.loop-set.invariant (c.if-not-is_alike.ensures refl)
