-- How large trees are, as a measure for recursions over them.
use Rattle.std.specs.Prelude.{ℕ, ◌+◌}
use Rattle.spanner_model.specs.Tree.{Tree, empty, one, cat_end, cat, alt_end, alt, rep, cap}
use Rattle.spanner_model.specs.Expression.{ExprTree, atom, named, union_end, union, join_end, join, project, minus}

-- how many nodes the formula has; an end counts none
abbrev pub nodes : Tree → ℕ
nodes empty = 1
nodes (one bytes) = 1
nodes cat_end = 0
nodes (cat f rest) = 1 + nodes f + nodes rest
nodes alt_end = 0
nodes (alt f rest) = 1 + nodes f + nodes rest
nodes (rep f least most) = 2 + nodes f
nodes (cap x f) = 1 + nodes f

-- how many nodes the expression has
abbrev pub expr_nodes : ExprTree → ℕ
expr_nodes (atom a) = 1
expr_nodes (named k) = 1
expr_nodes union_end = 0
expr_nodes (union e rest) = 1 + expr_nodes e + expr_nodes rest
expr_nodes join_end = 0
expr_nodes (join e rest) = 1 + expr_nodes e + expr_nodes rest
expr_nodes (project names e) = 1 + expr_nodes e
expr_nodes (minus e g) = 1 + expr_nodes e + expr_nodes g
