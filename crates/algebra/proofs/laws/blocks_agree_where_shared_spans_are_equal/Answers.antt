use Rattle.algebra.proofs.RowLaws.{blocks_agree}
use Rattle.algebra.proofs.laws.blocks_agree_where_shared_spans_are_equal.Goals as goal

pub returns : goal.returns
returns c = blocks_agree
