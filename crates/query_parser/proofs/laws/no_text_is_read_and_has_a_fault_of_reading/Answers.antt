use Rattle.query_parser.proofs.GrammarLaws.{no_query_with_read_fault}
use Rattle.query_parser.proofs.laws.no_text_is_read_and_has_a_fault_of_reading.Goals as goal

pub returns : goal.returns
returns c = no_query_with_read_fault
