use Rattle.std.proofs.Common.{vec_len}
use Rattle.raw_cells.proofs.table.Table.free.Given as goal

abbrev pub invariant-loop-chunk : goal.invariant-loop-chunk
invariant-loop-chunk g l = Unit {0}

abbrev pub decreases-loop-chunk : goal.decreases-loop-chunk
decreases-loop-chunk g l = vec_len l.chunks
