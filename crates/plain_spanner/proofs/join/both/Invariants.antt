use Rattle.std.proofs.Common.{◌≡◌, take}
use Rattle.spanner_model.specs.Captures.{row_of}
use Rattle.plain_spanner.specs.Tables.{merged}
use Rattle.plain_spanner.proofs.join.both.Given as goal

abbrev pub invariant-loop-k : goal.invariant-loop-k
invariant-loop-k l = l.row ≡ row_of (take l.k l.names) (merged l.left_names l.right_names l.left l.right)
