use Rattle.std.proofs.Common.{◌+◌, ◌*◌, take}
use Rattle.spanner_model.specs.Expression.{join_all}
use Rattle.spanner_model.specs.ExprView.{expr_of, exprs_of}
use Rattle.spanner_model.specs.Sound.{NameIn}
use Rattle.spanner_model.specs.Gathered.{Adds}
use Rattle.spanner_model.proofs.Nodes.{expr_nodes}
use Rattle.query_parser.proofs.check.+names.Given as goal

abbrev pub decreases-gather_names : goal.decreases-gather_names
decreases-gather_names l = 2 * expr_nodes (expr_of l.expr.now) + 1

abbrev pub decreases-gather_parts : goal.decreases-gather_parts
decreases-gather_parts l = 2 * expr_nodes (join_all (exprs_of l.parts.now))

abbrev pub invariant-gather_parts-loop-k : goal.invariant-gather_parts-loop-k
invariant-gather_parts-loop-k l = Adds l.initial.into (NameIn (join_all (take l.k (exprs_of l.parts)))) l.into
