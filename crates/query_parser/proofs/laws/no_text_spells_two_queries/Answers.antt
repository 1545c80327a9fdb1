use Rattle.query_parser.proofs.GrammarLaws.{one_query}
use Rattle.query_parser.proofs.laws.no_text_spells_two_queries.Goals as goal

pub returns : goal.returns
returns c = one_query
