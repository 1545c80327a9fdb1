use Rattle.std.proofs.Common.{◌≤◌}
use Rattle.raw_cells.proofs.chunk.largest.Given as goal

abbrev pub invariant-loop-count : goal.invariant-loop-count
invariant-loop-count g l = (l.fn.least ≤ l.count) × (l.count ≤ l.fn.most)

abbrev pub decreases-loop-count : goal.decreases-loop-count
decreases-loop-count g l = l.count
