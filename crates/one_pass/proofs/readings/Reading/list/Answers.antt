use Rattle.one_pass.proofs.ReadingLaws.{ended_here, refused_there}
use Rattle.one_pass.proofs.readings.Reading.list.Goals as goal

pub returns-clause-ended : goal.returns-clause-ended
returns-clause-ended g c = ended_here c.self.inside.pass c.self.view_is c.in-Ok.ensures.ended c.turn.ensures.listed c.turn.ensures.steps

pub returns-in-Err-clause-refused : goal.returns-in-Err-clause-refused
returns-in-Err-clause-refused g c = refused_there _ c.self.view_is c.in-Err.ensures.given_up
