use Rattle.std.proofs.Common.{refl}
use Rattle.rematch_c.proofs.RunLaws.{ended_none, untouched}
use Rattle.rematch_c.proofs.rematch_c_run.Goals as goal

pub returns-in_default : goal.returns-in_default
returns-in_default c =
    ended_none c.args.run.now.handle.home c.take.new.self.handle.home c.args.input.now _ c.number_of.result c.in_default.ensures.none c.take.ensures.left
    (untouched c.args.rows.now c.args.notes.now _ refl refl) c.number_of.ensures
