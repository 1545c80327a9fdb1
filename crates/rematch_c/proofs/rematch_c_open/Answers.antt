use Rattle.rematch_c.proofs.CallLaws.{opened_none}
use Rattle.rematch_c.proofs.rematch_c_open.Goals as goal

pub returns-in_default-clause-opened : goal.returns-in_default-clause-opened
returns-in_default-clause-opened c =
    opened_none c.args.query.now.handle.home c.take.new.self.handle.home c.args.document.now c.args.options.now c.clear.new.self c.number_of.result c.in_default.ensures.none c.take.ensures.left
    c.clear.ensures c.number_of.ensures
