use Rattle.byte_runs.proofs.ChainLaws.{lone_byte}
use Rattle.way_exits.proofs.inside.is_only.Goals as goal

pub returns : goal.returns
returns c is = lone_byte c.args.set.now c.single.result c.without.result c.args.byte c.single.ensures c.without.ensures (c.is_empty.ensures.0 is)
