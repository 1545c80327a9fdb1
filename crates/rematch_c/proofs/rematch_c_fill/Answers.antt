use Rattle.rematch_c.proofs.CallLaws.{filled_none}
use Rattle.rematch_c.proofs.rematch_c_fill.Goals as goal

pub returns-in_default : goal.returns-in_default
returns-in_default c =
    filled_none c.args.rows.now.handle.home c.take.new.self.handle.home c.args.out.now c.args.most c.number_of.result c.in_default.ensures.none c.take.ensures.left c.number_of.ensures
