use Rattle.growing_document.proofs.Insides.{fits_bytes}
use Rattle.session_server.proofs.Grows.{grow_halt, now_waits}
use Rattle.session_server.proofs.session.Session.grow.Goals as goal

pub returns-in-Ok-clause-grown : goal.returns-in-Ok-clause-grown
returns-in-Ok-clause-grown g c = λ k s stands. now_waits k c.args.self.now s c.args.text.now c.append.new.self c.requires.few (fits_bytes c.args.text.now c.type_inv.text)
    c.in-Ok.ensures.appended stands

pub returns-in-Err-clause-halted : goal.returns-in-Err-clause-halted
returns-in-Err-clause-halted g c = λ k s stands. grow_halt k c.args.self.now s c.args.text.now c.in-Err.fault c.halt_of.result c.halt_of.ensures c.in-Err.ensures.fault stands
