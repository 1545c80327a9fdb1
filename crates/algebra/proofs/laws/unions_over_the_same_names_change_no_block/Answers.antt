use Rattle.algebra.proofs.UnionsOver.{same_names_law}
use Rattle.algebra.proofs.laws.unions_over_the_same_names_change_no_block.Goals as goal

pub returns : goal.returns
returns c = same_names_law
