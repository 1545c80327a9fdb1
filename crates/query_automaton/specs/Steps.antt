-- How many steps compiling a query takes at most.
use Rattle.std.specs.Prelude.{ℕ, ◌+◌, ◌*◌, List, [], ◌∷◌}
use Rattle.spanner_model.specs.Captures.{VarName}
use Rattle.spanner_model.specs.Expression.{ExprTree, QueryTree, atom, named, union_end, union, join_end, join, project, minus}
use Rattle.marked_automaton.specs.Automaton.{Marked, size}
use Rattle.algebra.specs.Joining.{most_steps}
use Rattle.algebra_minus.specs.Steps as difference
use Rattle.query_automaton.specs.QueryAutomaton.{of_join, of_minus, of_union}

-- where each part has at most so many states, ways and ends together: one atom, one projection, and one part of a union or
-- join take no more steps than these
abbrev pub steps_of : ℕ → ℕ
steps_of most = 128 * most + 3 * (most * most)

-- and one minus no more than these
abbrev pub minus_steps_of : ℕ → ℕ
minus_steps_of most = (1 + most) * (26100 + 6500 * most + most * most)

-- all that an expression takes, then
abbrev pub steps_within : ℕ → ExprTree → ℕ
steps_within most (atom a) = steps_of most
steps_within most (named k) = 0
steps_within most union_end = 0
steps_within most (union e rest) = steps_of most + steps_within most e + steps_within most rest
steps_within most join_end = 0
steps_within most (join e rest) = steps_of most + steps_within most e + steps_within most rest
steps_within most (project names e) = steps_of most + steps_within most e
steps_within most (minus e g) = minus_steps_of most + steps_within most e + steps_within most g

abbrev pub steps_of_lets : ℕ → List (VarName × ExprTree) → ℕ
steps_of_lets most [] = 0
steps_of_lets most (l ∷ lets) = steps_within most l.1 + steps_of_lets most lets

-- and a query
abbrev pub steps_of_query : ℕ → QueryTree → ℕ
steps_of_query most q = steps_of_lets most q.lets + steps_within most q.body

-- what a union of two takes, a join, and a difference
abbrev pub union_steps : Marked → Marked → ℕ
union_steps A B = 64 * size B.graph + 64 * size (of_union A B).graph

abbrev pub join_steps : Marked → Marked → ℕ
join_steps A B = A.graph.states + B.graph.states + most_steps A B + 64 * size (of_join A B).graph

abbrev pub minus_steps : Marked → Marked → ℕ
minus_steps A B = A.graph.states + B.graph.states + difference.most_steps A.graph B.graph + 64 * size (of_minus A B).graph
