-- What a compiled query is.
use Rattle.std.specs.Prelude.{refl}
use Rattle.std.specs.Coded.{Coded, code_by, coded×}
use Rattle.spanner_model.specs.contracts.query.Query.{the_row}
use Rattle.spanner_model.specs.declared.query.Query.{Query}
use Rattle.spanner_model.specs.Expression.{QueryTree}
use Rattle.spanner_model.specs.Sound.{IsSound}
use Rattle.marked_automaton.specs.Automaton.{Marked}
use Rattle.marked_automaton.specs.Codes.{marked_code}
use Rattle.marked_automaton.specs.Reduct.{ReducesMarked}
use Rattle.query_automaton.specs.Laws.{AcceptsAnswersOf}
use Rattle.query_automaton.specs.QueryAutomaton.{of_query}

-- a query, and what it was compiled to
pub record CompiledQuery : Type 0 where
  pub query : Query
  pub automaton : Marked

-- it is stored as the pair of them
abbrev pub compiled_code : Coded CompiledQuery
compiled_code =
    code_by (Query × Marked) (coded× the_row.coded marked_code) (λ c. (c.query, c.automaton)) (λ p. record { query = p.0; automaton = p.1 }) (λ _. refl)

-- the query is sound, and the automaton reduces its own and accepts its answers
pub record IsCompiled (q : QueryTree) (A : Marked) : Type 0 where
  pub sound : IsSound q
  pub reduces : ReducesMarked A (of_query q)
  pub words : AcceptsAnswersOf q A
