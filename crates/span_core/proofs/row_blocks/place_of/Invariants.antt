use Rattle.std.proofs.Common.{◌≡◌, ℕ, ◌<◌, get_or}
use Rattle.std.specs.Int.{bit_at}
use Rattle.span_core.proofs.row_blocks.place_of.Given as goal

-- no block so far has the marker
abbrev pub invariant-loop-at : goal.invariant-loop-at
invariant-loop-at l = (j : ℕ) (d : ℕ × ℕ) → j < l.at-index → bit_at (get_or l.blocks j d).1 l.bit ≡ 0
