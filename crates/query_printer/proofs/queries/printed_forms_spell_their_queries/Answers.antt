use Rattle.query_printer.proofs.PrintedQueries.{query_spelled, query_read}
use Rattle.query_printer.proofs.queries.printed_forms_spell_their_queries.Goals as goal

pub returns-clause-queries : goal.returns-clause-queries
returns-clause-queries c = query_spelled

pub returns-clause-texts : goal.returns-clause-texts
returns-clause-texts c = query_read
