-- The tree that an expression, or a query, of the code stands for.
use Rattle.std.specs.Prelude.{List, map}
use Rattle.spanner_model.specs.Captures.{VarName}
use Rattle.spanner_model.specs.View.{atom_of}
use Rattle.spanner_model.specs.Expression.{ExprTree, QueryTree, atom, named, project, minus, union_all, join_all}
use Rattle.spanner_model.specs.declared.expression.Expr.{Expr}
use Rattle.spanner_model.specs.declared.expression.Exprs.{Exprs}
use Rattle.spanner_model.specs.declared.expression.Expr.TheOpen.{Expr-F, Exprs-F}
use Rattle.spanner_model.specs.declared.expression.Expr.TheFolds.{fold-Expr, fold-Exprs}
use Rattle.spanner_model.specs.declared.query.Lets.{Lets}
use Rattle.spanner_model.specs.declared.query.Query.{Query}

-- one node, with the tree of each child in its place
abbrev pub node_expr : Expr-F ExprTree (List ExprTree) → ExprTree
node_expr (Expr-F.Atom a) = atom (atom_of a)
node_expr (Expr-F.Named k) = named k
node_expr (Expr-F.Union parts) = union_all parts
node_expr (Expr-F.Join parts) = join_all parts
node_expr (Expr-F.Project names sub) = project names sub.value
node_expr (Expr-F.Minus left right) = minus left.value right.value

abbrev pub part_exprs : Exprs-F ExprTree (List ExprTree) → List ExprTree
part_exprs parts = parts.list.items

-- the tree of an expression
abbrev pub expr_of : Expr → ExprTree
expr_of = fold-Expr ExprTree (List ExprTree) node_expr part_exprs

-- the trees of the parts of a union or a join
abbrev pub exprs_of : Exprs → List ExprTree
exprs_of = fold-Exprs ExprTree (List ExprTree) node_expr part_exprs

-- the names and trees of the named expressions
abbrev pub lets_of : Lets → List (VarName × ExprTree)
lets_of lets = map (λ l. (l.0, expr_of l.1)) lets.list.items

-- the tree of a query
abbrev pub query_of : Query → QueryTree
query_of q = record { lets = lets_of q.lets; body = expr_of q.body }
