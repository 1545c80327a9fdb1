use Rattle.std.proofs.Common.{length}
use Rattle.engine_bench.proofs.rows.take_rows.Given as goal

abbrev pub decreases-loop-row : goal.decreases-loop-row
decreases-loop-row g l = length l.answers.rest
