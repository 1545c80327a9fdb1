use Rattle.query_parser.proofs.QueryLaws.{one_fault}
use Rattle.query_parser.proofs.laws.no_text_has_two_faults.Goals as goal

pub returns : goal.returns
returns c = one_fault
