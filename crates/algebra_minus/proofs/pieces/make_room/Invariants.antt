use Rattle.std.proofs.Common.{ℕ}
use Rattle.algebra_minus.specs.Pieces.{IsKnown}
use Rattle.algebra_minus.proofs.pieces.make_room.Given as goal

abbrev pub invariant-loop-state : goal.invariant-loop-state
invariant-loop-state l = (t c : ℕ) → IsKnown l.known.items t c → IsKnown l.initial.known.items t c
