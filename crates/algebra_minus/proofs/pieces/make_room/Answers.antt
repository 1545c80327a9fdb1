use Rattle.algebra_minus.proofs.KnownLaws.{known_pushed}
use Rattle.algebra_minus.proofs.pieces.make_room.Goals as goal

pub loop-state-preserved : goal.loop-state-preserved
loop-state-preserved c = λ t b h.
    let now = c.loop-state.known.items in
    c.loop-state.invariant t b (known_pushed now c.empty.result t b c.empty.ensures (rw (← c.in_ok-push.ensures.items) h))
