-- How many differences stand in a query.
use Rattle.std.specs.Prelude.{ℕ, suc, ◌+◌, List, [], ◌∷◌}
use Rattle.spanner_model.specs.Captures.{VarName}
use Rattle.spanner_model.specs.Expression.{ExprTree, QueryTree, atom, named, union_end, union, join_end, join, project, minus}

-- of an expression: each word `minus` that is read as a sign makes one
abbrev pub minuses_in : ExprTree → ℕ
minuses_in (atom a) = 0
minuses_in (named k) = 0
minuses_in union_end = 0
minuses_in (union e rest) = minuses_in e + minuses_in rest
minuses_in join_end = 0
minuses_in (join e rest) = minuses_in e + minuses_in rest
minuses_in (project names e) = minuses_in e
minuses_in (minus e g) = suc (minuses_in e + minuses_in g)

abbrev pub minuses_in_lets : List (VarName × ExprTree) → ℕ
minuses_in_lets [] = 0
minuses_in_lets (l ∷ lets) = minuses_in l.1 + minuses_in_lets lets

-- of a query, its lets among them
abbrev pub minuses_of : QueryTree → ℕ
minuses_of q = minuses_in_lets q.lets + minuses_in q.body
