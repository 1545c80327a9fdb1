use Rattle.algebra.proofs.EndLaws.{joins_of_few_ends}
use Rattle.algebra.proofs.laws.joins_of_few_ends_are_not_refused_for_them.Goals as goal

pub returns : goal.returns
returns c = joins_of_few_ends
