use Rattle.way_exits.proofs.AheadLaws.{has_all}
use Rattle.way_exits.proofs.states.is_all.Goals as goal

pub returns : goal.returns
returns c is = has_all c.args.set.now c.negation.result c.negation.ensures (c.is_empty.ensures.0 is)
