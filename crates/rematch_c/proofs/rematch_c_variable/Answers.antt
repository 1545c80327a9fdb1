use Rattle.rematch_c.proofs.CallLaws.{named_none}
use Rattle.rematch_c.proofs.rematch_c_variable.Goals as goal

pub returns-in_default-clause-named : goal.returns-in_default-clause-named
returns-in_default-clause-named c =
    named_none c.args.query.now.handle.home c.args.place c.clear.new.self c.number_of.result c.in_default.ensures.none c.number_of.ensures c.clear.ensures
