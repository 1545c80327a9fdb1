use Rattle.std.proofs.Common.{refl}
use Rattle.std.proofs.lemmas.List.{take_at}
use Rattle.rm_outside.proofs.line_input.put_front.Goals as goal

pub returns-clause-front : goal.returns-clause-front
returns-clause-front c = rw c.copy_from_slice.ensures.after (take_at _ _ _ refl)
