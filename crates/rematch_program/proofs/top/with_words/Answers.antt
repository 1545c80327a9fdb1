use Rattle.std.proofs.Common.{rules}
use Rattle.command_line.specs.RequestView.{request_view}
use Rattle.rematch_program.specs.Run.{accepted}
use Rattle.rematch_program.proofs.top.with_words.Goals as goal

pub returns-in-Ok : goal.returns-in-Ok
returns-in-Ok g c = record { case = accepted (request_view c.in-Ok.request) (search rules) c.with_request.ensures.case }
