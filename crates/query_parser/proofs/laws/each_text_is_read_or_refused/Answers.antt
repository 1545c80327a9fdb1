use Rattle.query_parser.proofs.EachQueryText.{read_or_refused}
use Rattle.query_parser.proofs.laws.each_text_is_read_or_refused.Goals as goal

pub returns : goal.returns
returns c = read_or_refused
