use Rattle.spanner_model.specs.Passing.{known}
use Rattle.spanner_engine.proofs.KnownTests.{known_kept}
use Rattle.spanner_engine.proofs.PassingLaws.{fit_left, goes_within}
use Rattle.spanner_engine.proofs.rows.TestedRows.advance.Goals as goal

pub advance_tested-requires-clause-bound : goal.advance_tested-requires-clause-bound
advance_tested-requires-clause-bound g c = known_kept (known c.args.self.now.tests.now g.J.Judge.judges) c.args.self.now.tested.now.asked c.args.self.now.bound

pub invariant_of-self-clause-fits : goal.invariant_of-self-clause-fits
invariant_of-self-clause-fits g c = fit_left _ _ c.args.self.now.answers.now.rest _ c.args.self.now.fits c.advance_tested.ensures.left

pub returns-clause-fits : goal.returns-clause-fits
returns-clause-fits g c = goes_within _ _ _ c.args.self.now.answers.now.rest c.advance_tested.new.answers.rest _ c.advance_tested.result c.args.self.now.fits c.advance_tested.ensures.next
