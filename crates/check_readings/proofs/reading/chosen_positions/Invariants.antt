use Rattle.std.proofs.Common.{ℕ, ◌<◌}
use Rattle.span_core.specs.Intervals.{Covers}
use Rattle.check_readings.proofs.reading.chosen_positions.Given as goal

abbrev pub invariant-loop-at : goal.invariant-loop-at
invariant-loop-at l = (q : ℕ) → Covers l.chosen q → q < l.at
