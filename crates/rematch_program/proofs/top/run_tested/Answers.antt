use Rattle.rematch_program.proofs.Completeness.{completes}
use Rattle.rematch_program.proofs.top.run_tested.Goals as goal

pub returns-clause-complete : goal.returns-clause-complete
returns-clause-complete g c = completes _ _ _ _ _ _ _ (record { end = c.with_words-outcome.result.status; note = _; done = c.with_words-outcome.ensures.case; report = c.report.ensures })
