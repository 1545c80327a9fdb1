use Rattle.std.proofs.Common.{◌≡◌, length}
use Rattle.spanner_model.specs.ExprView.{query_of}
use Rattle.plain_spanner.specs.Tables.{AreTables}
use Rattle.plain_spanner.proofs.answers.all.Given as goal

abbrev pub invariant-loop-k : goal.invariant-loop-k
invariant-loop-k l = (length l.tables.items ≡ l.k) × AreTables (query_of l.query) l.doc l.tables.items
