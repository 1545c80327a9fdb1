use Rattle.query_parser.proofs.EachTestedText.{each_text_told}
use Rattle.query_parser.proofs.laws.each_text_with_tests_is_told.Goals as goal

pub returns : goal.returns
returns c = each_text_told
