use Rattle.std.proofs.Common.{◌≡◌, take}
use Rattle.spanner_model.specs.Captures.{span_of, row_of}
use Rattle.plain_spanner.proofs.rows.row_of_captures.Given as goal

abbrev pub invariant-loop-k : goal.invariant-loop-k
invariant-loop-k l = l.row ≡ row_of (take l.k l.names) (span_of l.captures)
