use Rattle.query_parser.proofs.EachTestedText.{queries_before}
use Rattle.query_parser.proofs.laws.queries_without_tests_are_as_before.Goals as goal

pub returns : goal.returns
returns c = queries_before
