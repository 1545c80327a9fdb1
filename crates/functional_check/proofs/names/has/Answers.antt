use Rattle.functional_check.proofs.LeastLaws.{has_from}
use Rattle.functional_check.proofs.names.has.Goals as goal

pub returns : goal.returns
returns c = has_from c.args.names.now c.args.name.now c.find.result c.is_some.result c.is_some.ensures c.find.ensures.some c.find.ensures.none
