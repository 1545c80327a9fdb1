use Rattle.settled_states.proofs.Covers.{has_each, none_outside}
use Rattle.settled_states.proofs.lasting.has_each_byte.Goals as goal

pub returns : goal.returns
returns c =
    let s = c.args.set.now in
    ((λ h. has_each s c.negation.result c.negation.ensures (c.is_empty.ensures.0 h)), (λ h. c.is_empty.ensures.1 (none_outside s c.negation.result c.negation.ensures h)))
