use Rattle.std.proofs.Common.{◌≡◌, ◌<◌, ◌≤◌, ◌+◌, ℕ, slice_get}
use Rattle.row_writer.proofs.run.are_same_behind.Given as goal

abbrev pub invariant-loop-k : goal.invariant-loop-k
invariant-loop-k l = (j : ℕ) → l.place + 1 ≤ j → j < l.k → slice_get l.last j ≡ slice_get l.spans j
