use Rattle.rematch_c.proofs.CallLaws.{printed_none}
use Rattle.std.proofs.Common.{refl}
use Rattle.rematch_c.proofs.rematch_c_cursor.Goals as goal

pub returns-in_default-clause-printed : goal.returns-in_default-clause-printed
returns-in_default-clause-printed c =
    printed_none c.args.rows.now.handle.home c.args.row.now c.args.text.now 0 c.number_of.result c.in_default.ensures.none refl c.number_of.ensures
