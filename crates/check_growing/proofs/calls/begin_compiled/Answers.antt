use Rattle.spanner_model.specs.ExprView.{query_of}
use Rattle.spanner_engine.proofs.RowLaws.{compiled_rows}
use Rattle.check_growing.proofs.calls.begin_compiled.Goals as goal

pub new-requires-clause-rows : goal.new-requires-clause-rows
new-requires-clause-rows g c = compiled_rows (query_of c.args.compiled.query) c.into_automaton-automaton.result c.into_automaton-automaton.ensures.compiled
