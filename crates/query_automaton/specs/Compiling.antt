-- What is known when an expression of a query is compiled, and what is made of it.
use Rattle.std.specs.Prelude.{◌≡◌, ℕ, ◌<◌, ◌≤◌, List, length, slice_get, Some}
use Rattle.spanner_model.specs.Captures.{VarName}
use Rattle.spanner_model.specs.Expression.{ExprTree, QueryTree}
use Rattle.spanner_model.specs.Answer.{vars_of_lets}
use Rattle.spanner_model.specs.Sound.{IsSound, IsSoundExpr, NameIn, NameOf, sure_of_lets}
use Rattle.marked_automaton.specs.Automaton.{Marked}
use Rattle.marked_automaton.specs.Reduct.{ReducesMarked}
use Rattle.query_automaton.specs.Parts.{HasSmallAtoms}
use Rattle.query_automaton.specs.QueryAutomaton.{automaton_of, of_lets}

-- what is made of an expression after n lets
pub record IsCompiledFrom (q : QueryTree) (n : ℕ) (e : ExprTree) (a : Marked) : Type 0 where
  pub reduces : ReducesMarked a (automaton_of (of_lets q.lets n) e)
  pub small : HasSmallAtoms e

-- the automata of the first lets of a query
pub record AreCompiled (q : QueryTree) (lets : List Marked) : Type 0 where
  pub few : length lets ≤ length q.lets
  pub reduce : (k : ℕ) (a : Marked) → slice_get lets k ≡ Some a → ReducesMarked a (of_lets q.lets (length lets) k)
  pub small : (k : ℕ) (l : VarName × ExprTree) → k < length lets → slice_get q.lets k ≡ Some l → HasSmallAtoms l.1

-- what is asked of an expression that is compiled after n lets of a query
pub record IsAsked (q : QueryTree) (n : ℕ) (e : ExprTree) : Type 0 where
  pub sound : IsSound q
  pub sound_expr : IsSoundExpr (vars_of_lets q.lets n) (sure_of_lets q.lets n) n e
  pub named : (x : VarName) → NameIn e x → NameOf q x
