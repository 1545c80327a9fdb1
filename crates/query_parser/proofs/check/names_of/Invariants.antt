use Rattle.std.proofs.Common.{[], take}
use Rattle.spanner_model.specs.ExprView.{lets_of}
use Rattle.spanner_model.specs.Sound.{NameInLets}
use Rattle.spanner_model.specs.Gathered.{Adds}
use Rattle.query_parser.proofs.check.names_of.Given as goal

abbrev pub invariant-loop-k : goal.invariant-loop-k
invariant-loop-k l = Adds [] (NameInLets (take l.k (lets_of l.query.lets))) l.names
