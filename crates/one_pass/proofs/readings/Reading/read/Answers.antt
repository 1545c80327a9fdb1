use Rattle.one_pass.specs.Places.{bytes_at}
use Rattle.one_pass.proofs.ReadingLaws.{refused_here}
use Rattle.one_pass.proofs.readings.Reading.read.Goals as goal

pub returns-in-Err-clause-refused : goal.returns-in-Err-clause-refused
returns-in-Err-clause-refused g c = refused_here (λ at. bytes_at at c.args.piece.now) c.self.view_is c.in-Err.ensures.given_up
