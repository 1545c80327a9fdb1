use Rattle.std.proofs.Common.{◌≤◌, ◌*◌, length}
use Rattle.check_readings.proofs.repeated.kept_of.Given as goal

-- a line has 64 bytes at most
abbrev pub invariant-loop : goal.invariant-loop
invariant-loop g l = length l.document.items ≤ 64 * l.counter
