use Rattle.query_parser.proofs.QueryLaws.{no_query_with_fault}
use Rattle.query_parser.proofs.laws.no_text_has_a_query_and_a_fault.Goals as goal

pub returns : goal.returns
returns c = no_query_with_fault
