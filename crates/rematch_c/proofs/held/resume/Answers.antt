use Rattle.rematch_c.proofs.CallLaws.{resume_refused, resumed, resumed_other}
use Rattle.rematch_c.proofs.held.resume.Goals as goal

pub returns-in_default : goal.returns-in_default
returns-in_default c =
    let asked = c.args.asked.now in
    resumed_other c.args.held.now asked.document.now c.args.cursor.now asked.options.now c.args.rows.now.handle.home c.args.note.now c.in_default.not-Query c.requires.empty
    c.requires.silent

pub returns-in-Ok : goal.returns-in-Ok
returns-in-Ok c =
    let asked = c.args.asked.now in
    resumed c.args.held.now c.in-Query.query asked.document.now c.args.cursor.now asked.options.now c.in-Ok.read c.hold.new.slot.handle.home c.resume.new.note c.hold.new.note c.hold.result
    c.in-Query.is c.in-Ok.ensures.rows c.in-Ok.ensures.silent c.hold.ensures

pub returns-in-Err : goal.returns-in-Err
returns-in-Err c =
    let asked = c.args.asked.now in
    resume_refused c.args.held.now c.in-Query.query asked.document.now c.args.cursor.now asked.options.now c.args.rows.now.handle.home c.resume.new.note c.in-Err.status c.in-Query.is
    c.requires.empty c.in-Err.ensures.refused
