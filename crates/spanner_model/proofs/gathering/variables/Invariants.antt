use Rattle.std.proofs.Common.{◌≡◌, length}
use Rattle.spanner_model.specs.ExprView.{query_of}
use Rattle.spanner_model.proofs.ExprLaws.{Knows}
use Rattle.spanner_model.proofs.gathering.variables.Given as goal

abbrev pub invariant-loop-k : goal.invariant-loop-k
invariant-loop-k l = (length l.known.items ≡ l.k) × Knows (query_of l.query).lets l.known.items
