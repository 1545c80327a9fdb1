use Rattle.std.proofs.Common.{◌≡◌, ℕ, ◌<◌, length}
use Rattle.spanner_model.specs.ExprView.{lets_of}
use Rattle.query_parser.specs.TreeFaults.{LetPasses}
use Rattle.query_parser.specs.Bounds.{bounds_in}
use Rattle.query_parser.proofs.KnownLaws.{Knows}
use Rattle.query_parser.proofs.check.check_query.Given as goal

abbrev pub invariant-loop-k : goal.invariant-loop-k
invariant-loop-k l = record {
  long : length l.known.items ≡ l.k;
  knows : Knows (lets_of l.query.lets) (bounds_in l.names l.known.items);
  passed : (j : ℕ) → j < l.k → LetPasses (lets_of l.query.lets) j;
}
