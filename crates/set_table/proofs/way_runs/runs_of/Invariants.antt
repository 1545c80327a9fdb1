use Rattle.std.proofs.Common.{length}
use Rattle.set_table.proofs.WayRunLaws.{AreLaid}
use Rattle.set_table.proofs.way_runs.runs_of.Given as goal

abbrev pub invariant-loop-rest : goal.invariant-loop-rest
invariant-loop-rest l = AreLaid l.ways l.runs.items l.rest

abbrev pub decreases-loop-rest : goal.decreases-loop-rest
decreases-loop-rest l = length l.rest
