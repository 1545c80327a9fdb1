use Rattle.spanner_model.specs.ExprView.{query_of}
use Rattle.spanner_engine.proofs.PassingLaws.{all_fit, last_rest}
use Rattle.spanner_engine.proofs.tested.next_tested.Goals as goal

pub advance_tested-requires-clause-fits : goal.advance_tested-requires-clause-fits
advance_tested-requires-clause-fits g c = all_fit (query_of c.args.tested.now.query) c.args.doc.now c.args.vars.now c.args.answers.now.rest c.requires.last

pub returns-then-advance_tested-clause-last : goal.returns-then-advance_tested-clause-last
returns-then-advance_tested-clause-last g c =
    let left = c.advance_tested.ensures.left in
    last_rest (query_of c.args.tested.now.query) c.args.doc.now c.args.vars.now left.0 c.advance_tested.new.answers.rest c.args.answers.now.rest left.1 c.requires.last
