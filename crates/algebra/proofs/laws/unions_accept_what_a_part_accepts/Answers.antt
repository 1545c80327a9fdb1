use Rattle.algebra.proofs.Unions.{union_law}
use Rattle.algebra.proofs.laws.unions_accept_what_a_part_accepts.Goals as goal

pub returns : goal.returns
returns c = union_law
