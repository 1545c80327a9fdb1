use Rattle.span_core.proofs.HasLaws.{Has-append_left}
use Rattle.spanner_engine.proofs.PassingLaws.{fit_left}
use Rattle.spanner_engine.proofs.rows.TestedRows.advance_ends.Goals as goal

pub invariant_of-self-clause-fits : goal.invariant_of-self-clause-fits
invariant_of-self-clause-fits g c = fit_left _ _ c.args.self.now.answers.now.rest _ c.args.self.now.fits (_, c.advance_ends.ensures.next)

pub returns-clause-fits : goal.returns-clause-fits
returns-clause-fits g c = λ row h. c.args.self.now.fits row (rw c.advance_ends.ensures.next (Has-append_left _ c.advance_ends.new.self.rest row h))
