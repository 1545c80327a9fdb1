-- Which queries lose no answer where the document grows.
use Rattle.std.specs.Prelude.{◌≡◌, ℕ, zero, suc, false, List, ◌++◌, length, slice_get, nat_eq, MatchBool}
use Rattle.std.specs.Option.{IsSomeAnd}
use Rattle.spanner_model.specs.Answer.{IsAnswer}
use Rattle.spanner_model.specs.Captures.{Mapping, VarName}
use Rattle.spanner_model.specs.Expression.{ExprTree, QueryTree, atom, named, union_end, union, join_end, join, project, minus}

-- no atom of it is tied to the end, and it has no difference; G k says so of the let k
abbrev pub StaysOf : (ℕ → Type 0) → ExprTree → Type 0
StaysOf G (atom a) = a.to_end ≡ false
StaysOf G (named k) = G k
StaysOf G union_end = Unit {0}
StaysOf G (union e rest) = StaysOf G e × StaysOf G rest
StaysOf G join_end = Unit {0}
StaysOf G (join e rest) = StaysOf G e × StaysOf G rest
StaysOf G (project names e) = StaysOf G e
StaysOf G (minus e g) = ⊥

abbrev pub stays_of_lets : List (VarName × ExprTree) → ℕ → ℕ → Type 0
stays_of_lets lets zero k = ⊥
stays_of_lets lets (suc n) k = MatchBool (nat_eq k n) (IsSomeAnd (slice_get lets n) (λ l. StaysOf (stays_of_lets lets n) l.1)) (stays_of_lets lets n k)

abbrev pub Stays : QueryTree → Type 0
Stays q = StaysOf (stays_of_lets q.lets (length q.lets)) q.body

-- its answers are answers of every longer document
abbrev pub NothingGoes : Type 0
NothingGoes = (q : QueryTree) (d more : List ℕ) (m : Mapping) → Stays q → IsAnswer q d m → IsAnswer q (d ++ more) m
