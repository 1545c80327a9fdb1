use Rattle.spanner_model.specs.ExprView.{query_of}
use Rattle.spanner_engine.proofs.PassingLaws.{all_fit}
use Rattle.spanner_engine.proofs.rows.TestedRows.new.Goals as goal

pub invariant_of-result-clause-fits : goal.invariant_of-result-clause-fits
invariant_of-result-clause-fits g c = all_fit (query_of c.args.tested.now.query) c.args.document.now c.args.vars.now c.args.answers.now.rest c.requires.last

pub invariant_of-result-clause-bound : goal.invariant_of-result-clause-bound
invariant_of-result-clause-bound g c = ∣ c.requires.bound ∣₁
