use Rattle.std.proofs.Common.{drop}
use Rattle.set_table.specs.Runs.{AreRuns}
use Rattle.set_table.proofs.WayRunLaws.{AreRead}
use Rattle.set_table.proofs.reaching.put_runs.Given as goal

abbrev pub invariant-loop-bytes : goal.invariant-loop-bytes
invariant-loop-bytes l = AreRuns l.rest (drop l.bytes-index l.runs) × AreRead l.byte l.ways l.initial.codes.items l.rest l.codes.items
