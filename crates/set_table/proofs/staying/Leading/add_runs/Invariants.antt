use Rattle.std.proofs.Common.{drop}
use Rattle.set_table.specs.Runs.{AreRuns}
use Rattle.set_table.proofs.WayRunLaws.{IsPassing}
use Rattle.set_table.proofs.staying.Leading.add_runs.Given as goal

abbrev pub invariant-loop-bytes : goal.invariant-loop-bytes
invariant-loop-bytes l = AreRuns l.rest (drop l.bytes-index l.runs) × IsPassing l.members l.ways l.rest l.initial.self l.self
