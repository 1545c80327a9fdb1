use Rattle.std.proofs.Common.{◌≡◌, take}
use Rattle.spanner_model.specs.Captures.{mapping_of, row_of}
use Rattle.plain_spanner.proofs.table.row_with.Given as goal

abbrev pub invariant-loop-k : goal.invariant-loop-k
invariant-loop-k l = l.result ≡ row_of (take l.k l.others) (mapping_of l.names l.row)
