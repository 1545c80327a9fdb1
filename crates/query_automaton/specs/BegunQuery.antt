-- A query that is being compiled, with the automata of its first lets.
use Rattle.std.specs.Prelude.{ℕ, ◌+◌, List, length, refl}
use Rattle.std.specs.Coded.{Coded, code_by, coded×, coded_list, coded_ℕ}
use Rattle.spanner_model.specs.contracts.query.Query.{the_row}
use Rattle.spanner_model.specs.declared.query.Query.{Query}
use Rattle.spanner_model.specs.Expression.{ExprTree}
use Rattle.spanner_model.specs.ExprView.{query_of}
use Rattle.marked_automaton.specs.declared.fault.SizeFault.{SizeFault}
use Rattle.marked_automaton.specs.Automaton.{Marked, size}
use Rattle.marked_automaton.specs.Codes.{marked_code}
use Rattle.query_automaton.specs.Compiling.{AreCompiled, IsAsked, IsCompiledFrom}
use Rattle.query_automaton.specs.declared.fault.CompileFault.{CompileFault}
use Rattle.query_automaton.specs.Held.{HasCauseOf, Takes}
use Rattle.query_automaton.specs.Parts.{HasLargePartOf}
use Rattle.query_automaton.specs.QueryAutomaton.{of_lets}

pub record BegunQuery : Type 0 where
  pub query : Query
  pub lets : List Marked
  -- the states, ways and ends that are held
  pub held : ℕ

-- it is stored as the three of them
abbrev pub begun_code : Coded BegunQuery
begun_code =
    code_by (Query × (List Marked × ℕ)) (coded× the_row.coded (coded× (coded_list marked_code) coded_ℕ)) (λ c. (c.query, (c.lets, c.held)))
    (λ p. record { query = p.0; lets = p.1.0; held = p.1.1 }) (λ _. refl)

-- an expression of the query can be compiled
pub record CanCompile (c : BegunQuery) (e : ExprTree) : Type 0 where
  pub known : AreCompiled (query_of c.query) c.lets
  pub asked : IsAsked (query_of c.query) (length c.lets) e

-- what is made of it
abbrev pub IsCompiledIn : BegunQuery → ExprTree → Marked → Type 0
IsCompiledIn c e = IsCompiledFrom (query_of c.query) (length c.lets) e

-- it is refused only for a part of it that is too large
abbrev pub HasLargePartIn : BegunQuery → ExprTree → SizeFault → Type 0
HasLargePartIn c e = HasLargePartOf (of_lets (query_of c.query).lets (length c.lets)) e

-- it is refused only with a cause, where so many steps are left; and so where an automaton waits meanwhile
abbrev pub HasCauseIn : BegunQuery → ℕ → ExprTree → CompileFault → Type 0
HasCauseIn c effort e = HasCauseOf (of_lets (query_of c.query).lets (length c.lets)) c.held effort e

abbrev pub HasCauseBeside : BegunQuery → Marked → ℕ → ExprTree → CompileFault → Type 0
HasCauseBeside c A effort e = HasCauseOf (of_lets (query_of c.query).lets (length c.lets)) (c.held + size A.graph) effort e

-- it takes no more steps than it may
abbrev pub TakesIn : BegunQuery → ExprTree → ℕ → ℕ → Type 0
TakesIn c e before after = Takes (of_lets (query_of c.query).lets (length c.lets)) e before after
