use Rattle.rematch_c.proofs.CallLaws.{open_refused, opened, opened_other}
use Rattle.rematch_c.proofs.held.open.Goals as goal

pub returns-in_default : goal.returns-in_default
returns-in_default c =
    let asked = c.args.asked.now in
    opened_other c.args.held.now asked.document.now asked.options.now c.args.rows.now.handle.home c.args.note.now c.in_default.not-Query c.requires.empty c.requires.silent

pub returns-in-Ok : goal.returns-in-Ok
returns-in-Ok c =
    let asked = c.args.asked.now in
    opened c.args.held.now c.in-Query.query asked.document.now asked.options.now c.in-Ok.read c.hold.new.slot.handle.home c.read.new.note c.hold.new.note c.hold.result c.in-Query.is
    c.in-Ok.ensures.rows c.in-Ok.ensures.silent c.hold.ensures

pub returns-in-Err : goal.returns-in-Err
returns-in-Err c =
    let asked = c.args.asked.now in
    open_refused c.args.held.now c.in-Query.query asked.document.now asked.options.now c.args.rows.now.handle.home c.read.new.note c.in-Err.status c.in-Query.is c.requires.empty
    c.in-Err.ensures.refused
