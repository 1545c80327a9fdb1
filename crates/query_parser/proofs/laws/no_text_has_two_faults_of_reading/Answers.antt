use Rattle.query_parser.proofs.GrammarLaws.{one_read_fault}
use Rattle.query_parser.proofs.laws.no_text_has_two_faults_of_reading.Goals as goal

pub returns : goal.returns
returns c = one_read_fault
