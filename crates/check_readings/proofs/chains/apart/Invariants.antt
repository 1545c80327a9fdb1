use Rattle.std.proofs.Common.{◌<◌}
use Rattle.node_arena.specs.Cells.{hold}
use Rattle.check_readings.proofs.chains.apart.Given as goal

abbrev pub invariant-loop : goal.invariant-loop
invariant-loop g l = 0 < hold l.arena.holds l.cell
