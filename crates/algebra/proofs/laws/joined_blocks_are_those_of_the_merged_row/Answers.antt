use Rattle.algebra.proofs.RowLaws.{blocks_are_joined}
use Rattle.algebra.proofs.laws.joined_blocks_are_those_of_the_merged_row.Goals as goal

pub returns : goal.returns
returns c = blocks_are_joined
