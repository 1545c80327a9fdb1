use Rattle.rematch_c.proofs.CallLaws.{counted_none}
use Rattle.rematch_c.proofs.rematch_c_variables.Goals as goal

pub returns-in_default-clause-counted : goal.returns-in_default-clause-counted
returns-in_default-clause-counted c = counted_none c.args.query.now.handle.home c.number_of.result c.in_default.ensures.none c.number_of.ensures
