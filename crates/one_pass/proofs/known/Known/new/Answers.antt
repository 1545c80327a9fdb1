use Rattle.one_pass.proofs.KnownLaws.{known_none}
use Rattle.one_pass.proofs.known.Known.new.Goals as goal

pub returns : goal.returns
returns c = λ t. known_none t _ _ _ c.new-2.ensures.layers c.new-2.ensures.none
