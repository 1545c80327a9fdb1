use Rattle.one_pass.proofs.CopyLaws.{goes_on_grown}
use Rattle.one_pass.proofs.ReadingLaws.{listed_here}
use Rattle.one_pass.proofs.readings.Reading.rows_so_far.Goals as goal

pub invariant_of-self : goal.invariant_of-self
invariant_of-self g c = goes_on_grown c.self.invariant c.lists_of.ensures.ended

pub returns-clause-listed : goal.returns-clause-listed
returns-clause-listed g c = listed_here c.self.view_is c.self.invariant c.lists_of.ensures.ended
