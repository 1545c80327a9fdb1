use Rattle.query_parser.proofs.EachQueryText.{query_or_fault}
use Rattle.query_parser.proofs.laws.each_text_has_a_query_or_a_fault.Goals as goal

pub returns : goal.returns
returns c = query_or_fault
