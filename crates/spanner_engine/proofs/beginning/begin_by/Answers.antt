use Rattle.std.specs.Option.{option_copied}
use Rattle.spanner_model.specs.ExprView.{query_of}
use Rattle.spanner_engine.specs.Begun.{begin_steps, counted, row_kept}
use Rattle.spanner_engine.proofs.CacheLaws.{alone}
use Rattle.spanner_engine.proofs.beginning.begin_by.Goals as goal

pub begin_with-requires-clause-cache : goal.begin_with-requires-clause-cache
begin_with-requires-clause-cache g c = c.new-cache.ensures.any c.args.automaton.now.graph

pub returns-clause-steps : goal.returns-clause-steps
returns-clause-steps g c K are =
    let q = query_of c.args.query.now in
    alone c.new-cache.result.kept (counted q) c.args.doc.now K c.args.steps.now c.begin_with.new.steps
    (begin_steps c.args.options.filter q c.args.doc.now K (row_kept (option_copied c.args.after)))
    c.new-cache.ensures.empty (c.begin_with.ensures.steps K are)
