use Rattle.rematch_c.proofs.CallLaws.{shared_none}
use Rattle.rematch_c.proofs.rematch_c_share.Goals as goal

pub returns-in_default-clause-shared : goal.returns-in_default-clause-shared
returns-in_default-clause-shared c =
    shared_none c.args.query.now.handle.home c.take.new.self.handle.home c.number_of.result c.in_default.ensures.none c.take.ensures.left c.number_of.ensures
