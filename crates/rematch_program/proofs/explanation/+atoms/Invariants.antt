use Rattle.std.proofs.Common.{◌+◌, ◌*◌, take}
use Rattle.spanner_model.specs.Expression.{join_all}
use Rattle.spanner_model.specs.ExprView.{expr_of, exprs_of}
use Rattle.spanner_model.proofs.Nodes.{expr_nodes}
use Rattle.rematch_program.specs.Explained.{HasLines, atoms_among}
use Rattle.rematch_program.proofs.explanation.+atoms.Given as goal

abbrev pub decreases-push_atoms : goal.decreases-push_atoms
decreases-push_atoms l = 2 * expr_nodes (expr_of l.expr.now) + 1

abbrev pub decreases-push_parts : goal.decreases-push_parts
decreases-push_parts l = 2 * expr_nodes (join_all (exprs_of l.parts.now))

abbrev pub invariant-push_parts-loop-k : goal.invariant-push_parts-loop-k
invariant-push_parts-loop-k l = HasLines l.before l.fn.text.items (atoms_among (take l.k (exprs_of l.parts))) l.atoms l.text.items
