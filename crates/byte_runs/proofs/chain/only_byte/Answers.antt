use Rattle.byte_runs.proofs.ChainLaws.{lone_byte}
use Rattle.byte_runs.proofs.chain.only_byte.Goals as goal

pub returns-then-is_empty : goal.returns-then-is_empty
returns-then-is_empty c = lone_byte c.args.set.now c.single.result c.without-others.result c.loop-number.number c.single.ensures c.without-others.ensures (c.is_empty.ensures.0 c.if-is_empty.true)
