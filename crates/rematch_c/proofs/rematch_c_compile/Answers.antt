use Rattle.rematch_c.proofs.CallLaws.{compiled, text_refused}
use Rattle.rematch_c.proofs.rematch_c_compile.Goals as goal

pub returns-in-Ok : goal.returns-in-Ok
returns-in-Ok c =
    compiled c.args.text.now c.in-Ok.read c.hold.new.slot.handle.home c.read.new.note c.hold.new.note c.hold.result c.number_of.result c.in-Ok.ensures.query c.in-Ok.ensures.names
    c.in-Ok.ensures.silent c.hold.ensures c.number_of.ensures

pub returns-in-Err : goal.returns-in-Err
returns-in-Err c =
    text_refused c.args.text.now c.take.new.self.handle.home c.read.new.note c.in-Err.status c.number_of-in-Err.result c.take.ensures.left c.in-Err.ensures.refused c.number_of-in-Err.ensures
