-- What a query of the grammar has of a sound one: all but what the checks over the tree find.
use Rattle.std.specs.Prelude.{◌≡◌, ℕ, ◌<◌, length, slice_get}
use Rattle.std.specs.Option.{ForSome}
use Rattle.span_core.specs.Lists.{Has}
use Rattle.span_core.specs.NameSets.{AreVariables}
use Rattle.spanner_model.specs.Captures.{VarName}
use Rattle.spanner_model.specs.WellBuilt.{IsWellBuilt}
use Rattle.spanner_model.specs.Expression.{ExprTree, QueryTree, atom, named, union_end, union, join_end, join, project, minus}
use Rattle.spanner_model.specs.Sound.{IsFreeName}
use Rattle.query_parser.specs.TreeFaults.{PassesUnder, LetPasses}

-- an expression under n lets
abbrev mutual
  pub IsFormed : ℕ → ExprTree → Type 0
  IsFormed n (atom a) = IsWellBuilt a.formula
  IsFormed n (named k) = k < n
  IsFormed n union_end = ⊥
  IsFormed n (union e rest) = IsFormed n e × AreUnitedFormed n rest × ¬ (rest ≡ union_end)
  IsFormed n join_end = ⊥
  IsFormed n (join e rest) = IsFormed n e × AreJoinedFormed n rest × ¬ (rest ≡ join_end)
  IsFormed n (project names e) = IsFormed n e × ((x : VarName) → Has names x → IsFreeName x) × AreVariables names
  IsFormed n (minus e g) = IsFormed n e × IsFormed n g

  -- the parts that follow one of a union
  pub AreUnitedFormed : ℕ → ExprTree → Type 0
  AreUnitedFormed n union_end = Unit {0}
  AreUnitedFormed n (union e rest) = IsFormed n e × AreUnitedFormed n rest
  AreUnitedFormed n _ = ⊥

  -- the parts that follow one of a join
  pub AreJoinedFormed : ℕ → ExprTree → Type 0
  AreJoinedFormed n join_end = Unit {0}
  AreJoinedFormed n (join e rest) = IsFormed n e × AreJoinedFormed n rest
  AreJoinedFormed n _ = ⊥

abbrev pub IsFormedQuery : QueryTree → Type 0
IsFormedQuery q = ((k : ℕ) → ForSome (slice_get q.lets k) (λ l. IsFormed k l.1)) × IsFormed (length q.lets) q.body

-- all lets and the body pass
abbrev pub PassesQuery : QueryTree → Type 0
PassesQuery q = ((k : ℕ) → LetPasses q.lets k) × PassesUnder q.lets (length q.lets) q.body
