use Rattle.algebra.proofs.UnionsOver.{union_over_law}
use Rattle.algebra.proofs.laws.unions_accept_the_words_of_both_over_all_names.Goals as goal

pub returns : goal.returns
returns c = union_over_law
