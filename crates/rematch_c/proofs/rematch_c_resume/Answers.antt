use Rattle.rematch_c.proofs.CallLaws.{resumed_none}
use Rattle.rematch_c.proofs.rematch_c_resume.Goals as goal

pub returns-in_default-clause-resumed : goal.returns-in_default-clause-resumed
returns-in_default-clause-resumed c =
    resumed_none c.args.query.now.handle.home c.take.new.self.handle.home c.args.document.now c.args.cursor.now c.args.options.now c.clear.new.self c.number_of.result
    c.in_default.ensures.none c.take.ensures.left c.clear.ensures c.number_of.ensures
