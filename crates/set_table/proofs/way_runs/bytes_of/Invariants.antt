use Rattle.std.proofs.Common.{take}
use Rattle.set_table.specs.Runs.{Bounds}
use Rattle.set_table.proofs.way_runs.bytes_of.Given as goal

abbrev pub invariant-loop-way : goal.invariant-loop-way
invariant-loop-way l = Bounds l.bytes (take l.way-index l.ways)
