use Rattle.spanner_model.specs.ExprView.{query_of}
use Rattle.spanner_model.specs.Answers.{AreResultNames}
use Rattle.session_server.proofs.Refusals.{heavy_by, ok_under}
use Rattle.session_server.proofs.session.begun.Goals as goal

pub all_of-requires-clause-names : goal.all_of-requires-clause-names
all_of-requires-clause-names g c =
    rw c.in-Ok.ensures.query c.in-Ok.ensures.words.0

pub returns-in-Ok-clause-names : goal.returns-in-Ok-clause-names
returns-in-Ok-clause-names g c =
    ok_under c.all_of.result c.in-Ok.compiled.automaton.names (AreResultNames (query_of c.args.query.now)) c.in-Ok.ensures.words.0 c.all_of.ensures.names

pub returns-in-Err-clause-refused : goal.returns-in-Err-clause-refused
returns-in-Err-clause-refused g c = heavy_by (query_of c.args.query.now) c.args.document.items c.of_size.result c.in-Err.fault c.in-Err.ensures.fault c.of_size.ensures.note c.of_size.ensures.memory
