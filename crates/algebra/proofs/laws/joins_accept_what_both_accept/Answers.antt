use Rattle.algebra.proofs.Joins.{join_law}
use Rattle.algebra.proofs.laws.joins_accept_what_both_accept.Goals as goal

pub returns : goal.returns
returns c = join_law
