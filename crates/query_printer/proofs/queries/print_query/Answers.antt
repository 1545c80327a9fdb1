use Rattle.spanner_model.specs.ExprView.{query_of}
use Rattle.query_printer.proofs.PrintedQueries.{printed_again}
use Rattle.query_printer.proofs.SoundFormed.{query_is_formed}
use Rattle.query_printer.proofs.queries.print_query.Goals as goal

pub push_query-done-requires : goal.push_query-done-requires
push_query-done-requires c = query_is_formed (query_of c.args.query.now) c.requires

pub returns-else-is_err-clause-again : goal.returns-else-is_err-clause-again
returns-else-is_err-clause-again c = printed_again c.push_query-done.result (query_of c.args.query.now) c.requires
