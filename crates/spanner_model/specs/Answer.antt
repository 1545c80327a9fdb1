-- The answers of a query on a document, as mappings (Fagin et al. 2015, the algebra of spanners).
--   That an atom fits some part of the document, unless it is tied, and that expressions have names by
--   `let`, is this project's own.
use Rattle.std.specs.Prelude.{◌≡◌, ℕ, zero, suc, slice_get, ◌≤◌, ◌⊎◌, List, length, None, nat_eq, IsTrue, MatchBool}
use Rattle.std.specs.Option.{IsSomeAnd}
use Rattle.span_core.specs.Lists.{Has}
use Rattle.spanner_model.specs.Expression.{AtomTree, ExprTree, QueryTree, atom, named, union_end, union, join_end, join, project, minus}
use Rattle.spanner_model.specs.Captures.{VarName, Captures, Mapping, span_of}
use Rattle.spanner_model.specs.Fit.{Fit}
use Rattle.spanner_model.specs.Sequential.{HasVar}

-- the variables of an expression; V k has those of the let k
abbrev pub VarOf : (ℕ → VarName → Type 0) → ExprTree → VarName → Type 0
VarOf V (atom a) x = HasVar a.formula x
VarOf V (named k) x = V k x
VarOf V union_end x = ⊥
VarOf V (union e rest) x = VarOf V e x ⊎ VarOf V rest x
VarOf V join_end x = ⊥
VarOf V (join e rest) x = VarOf V e x ⊎ VarOf V rest x
VarOf V (project names e) x = Has names x
VarOf V (minus e g) x = VarOf V e x

-- n is m on these variables, and elsewhere absent
abbrev pub IsRestriction : (VarName → Type 0) → Mapping → Mapping → Type 0
IsRestriction V m n = (x : VarName) → (V x → n x ≡ m x) × ((V x → ⊥) → n x ≡ None)

-- an atom's answer: with it the formula fits some part of the document, tied as the atom says
abbrev pub FitsSomewhere : AtomTree → List ℕ → Mapping → Type 0
FitsSomewhere a d m =
    (i : ℕ) × (j : ℕ) × (c : Captures) × Fit a.formula d i j c × (j ≤ length d)
    × (IsTrue a.from_start → i ≡ 0) × (IsTrue a.to_end → j ≡ length d) × ((x : VarName) → m x ≡ span_of c x)

-- m is an answer of the expression on d; V k has the variables, and A k the answers, of the let k
--   A join of several parts is that of the first with the join of the others.
module _ (V : ℕ → VarName → Type 0) (A : ℕ → Mapping → Type 0) (d : List ℕ) where
  abbrev pub Answer : ExprTree → Mapping → Type 0
  Answer (atom a) m = FitsSomewhere a d m
  Answer (named k) m = A k m
  Answer union_end m = ⊥
  Answer (union e rest) m = Answer e m ⊎ Answer rest m
  Answer join_end m = (x : VarName) → m x ≡ None
  Answer (join e rest) m =
      (n1 : Mapping) × (n2 : Mapping)
      × IsRestriction (VarOf V e) m n1 × Answer e n1
      × IsRestriction (VarOf V rest) m n2 × Answer rest n2
      × ((x : VarName) → (VarOf V e x ⊎ VarOf V rest x → ⊥) → m x ≡ None)
  Answer (project names e) m = (n : Mapping) × Answer e n × IsRestriction (Has names) n m
  Answer (minus e g) m = Answer e m × ¬ Answer g m

-- the variables of the first n lets, by number: of each its own, under the lets before it
abbrev pub vars_of_lets : List (VarName × ExprTree) → ℕ → ℕ → VarName → Type 0
vars_of_lets lets zero k x = ⊥
vars_of_lets lets (suc n) k x =
    MatchBool (nat_eq k n)
    (IsSomeAnd (slice_get lets n) (λ l. VarOf (vars_of_lets lets n) l.1 x))
    (vars_of_lets lets n k x)

-- the answers of the first n lets, likewise
abbrev pub answers_of_lets : List (VarName × ExprTree) → List ℕ → ℕ → ℕ → Mapping → Type 0
answers_of_lets lets d zero k m = ⊥
answers_of_lets lets d (suc n) k m =
    MatchBool (nat_eq k n)
    (IsSomeAnd (slice_get lets n) (λ l. Answer (vars_of_lets lets n) (answers_of_lets lets d n) d l.1 m))
    (answers_of_lets lets d n k m)

-- x is a variable of the query's result
abbrev pub IsResultVar : QueryTree → VarName → Type 0
IsResultVar q = VarOf (vars_of_lets q.lets (length q.lets)) q.body

-- m is an answer of the query on the document
abbrev pub IsAnswer : QueryTree → List ℕ → Mapping → Type 0
IsAnswer q d = Answer (vars_of_lets q.lets (length q.lets)) (answers_of_lets q.lets d (length q.lets)) d q.body
