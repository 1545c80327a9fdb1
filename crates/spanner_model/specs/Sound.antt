-- Which queries are sound.
use Rattle.std.specs.Prelude.{◌≡◌, ℕ, zero, suc, ◌<◌, ◌≤◌, ◌⊎◌, ◌↔◌, max, List, [], ◌∷◌, length, map, slice_get, nat_eq, IsTrue, MatchBool, codes}
use Rattle.std.specs.Option.{ForSome, IsSomeAnd}
use Rattle.span_core.specs.Names.{is_name}
use Rattle.span_core.specs.NameSets.{Ascending}
use Rattle.span_core.specs.declared.TheConstants.{MOST_VARIABLES}
use Rattle.spanner_model.specs.declared.TheConstants.{MOST_NESTED_EXPRESSIONS}
use Rattle.span_core.specs.Lists.{Has, AtMost, AreDistinct}
use Rattle.spanner_model.specs.Captures.{VarName}
use Rattle.spanner_model.specs.Sequential.{HasVar, IsSequential, IsSure}
use Rattle.spanner_model.specs.WellBuilt.{IsWellBuilt}
use Rattle.spanner_model.specs.Expression.{ExprTree, QueryTree, atom, named, union_end, union, join_end, join, project, minus}
use Rattle.spanner_model.specs.Answer.{VarOf, vars_of_lets}

-- the words of queries, which name nothing
abbrev pub words : List VarName
words = codes "let" ∷ codes "union" ∷ codes "join" ∷ codes "project" ∷ codes "none" ∷ []

-- a name that a let may have, or that a projection may keep
abbrev pub IsFreeName : VarName → Type 0
IsFreeName x = IsTrue (is_name x) × ¬ Has words x

-- x is a sure variable of the expression: each answer gives it a span; S k has those of the let k
--   Of no parts of a union every name is sure, since nothing answers.
abbrev pub SureOf : (ℕ → VarName → Type 0) → ExprTree → VarName → Type 0
SureOf S (atom a) x = IsSure a.formula x
SureOf S (named k) x = S k x
SureOf S union_end x = Unit {0}
SureOf S (union e rest) x = SureOf S e x × SureOf S rest x
SureOf S join_end x = ⊥
SureOf S (join e rest) x = SureOf S e x ⊎ SureOf S rest x
SureOf S (project names e) x = Has names x × SureOf S e x
SureOf S (minus e g) x = SureOf S e x

-- the sure variables of the first n lets, by number: of each its own, under the lets before it
abbrev pub sure_of_lets : List (VarName × ExprTree) → ℕ → ℕ → VarName → Type 0
sure_of_lets lets zero k x = ⊥
sure_of_lets lets (suc n) k x =
    MatchBool (nat_eq k n)
    (IsSomeAnd (slice_get lets n) (λ l. SureOf (sure_of_lets lets n) l.1 x))
    (sure_of_lets lets n k x)

-- x is a sure variable of the query's result
abbrev pub IsSureResult : QueryTree → VarName → Type 0
IsSureResult q = SureOf (sure_of_lets q.lets (length q.lets)) q.body

-- V k has the variables, and S k the sure ones, of the let k
module _ (V S : ℕ → VarName → Type 0) where
  -- a variable that stands in this part of a join and in one that follows is sure in both
  abbrev pub SharesSure : ExprTree → ExprTree → Type 0
  SharesSure e (join g rest) = ((x : VarName) → VarOf V e x → VarOf V g x → SureOf S e x × SureOf S g x) × SharesSure e rest
  SharesSure e _ = Unit {0}

  -- a sound expression under n lets; what a projection keeps is a set, as the list that ascends strictly
  abbrev mutual
    pub IsSoundExpr : ℕ → ExprTree → Type 0
    IsSoundExpr n (atom a) = IsWellBuilt a.formula × IsSequential a.formula
    IsSoundExpr n (named k) = k < n
    IsSoundExpr n union_end = ⊥
    IsSoundExpr n (union e rest) = IsSoundExpr n e × AreUnited n rest × ¬ (rest ≡ union_end)
    IsSoundExpr n join_end = ⊥
    IsSoundExpr n (join e rest) = IsSoundExpr n e × AreJoined n rest × ¬ (rest ≡ join_end) × SharesSure e rest
    IsSoundExpr n (project names e) = IsSoundExpr n e × ((x : VarName) → Has names x → VarOf V e x × IsFreeName x) × Ascending names
    IsSoundExpr n (minus e g) = IsSoundExpr n e × IsSoundExpr n g × ((x : VarName) → VarOf V e x ↔ VarOf V g x)

    -- the parts that follow one of a union
    pub AreUnited : ℕ → ExprTree → Type 0
    AreUnited n union_end = Unit {0}
    AreUnited n (union e rest) = IsSoundExpr n e × AreUnited n rest
    AreUnited n _ = ⊥

    -- the parts that follow one of a join
    pub AreJoined : ℕ → ExprTree → Type 0
    AreJoined n join_end = Unit {0}
    AreJoined n (join e rest) = IsSoundExpr n e × AreJoined n rest × SharesSure e rest
    AreJoined n _ = ⊥

-- how many unions, joins, projections and differences stand inside each other
abbrev pub expr_nesting : ExprTree → ℕ
expr_nesting (atom a) = 0
expr_nesting (named k) = 0
expr_nesting union_end = 1
expr_nesting (union e rest) = max (suc (expr_nesting e)) (expr_nesting rest)
expr_nesting join_end = 1
expr_nesting (join e rest) = max (suc (expr_nesting e)) (expr_nesting rest)
expr_nesting (project names e) = suc (expr_nesting e)
expr_nesting (minus e g) = suc (max (expr_nesting e) (expr_nesting g))

-- a sound expression under the first n lets, in which not too many stand inside each other
abbrev pub IsSoundUnder : List (VarName × ExprTree) → ℕ → ExprTree → Type 0
IsSoundUnder lets n e = IsSoundExpr (vars_of_lets lets n) (sure_of_lets lets n) n e × (expr_nesting e ≤ MOST_NESTED_EXPRESSIONS)

-- x is a name in an atom of the expression, kept or not
abbrev pub NameIn : ExprTree → VarName → Type 0
NameIn (atom a) x = HasVar a.formula x
NameIn (named k) x = ⊥
NameIn union_end x = ⊥
NameIn (union e rest) x = NameIn e x ⊎ NameIn rest x
NameIn join_end x = ⊥
NameIn (join e rest) x = NameIn e x ⊎ NameIn rest x
NameIn (project names e) x = NameIn e x
NameIn (minus e g) x = NameIn e x ⊎ NameIn g x

abbrev pub NameInLets : List (VarName × ExprTree) → VarName → Type 0
NameInLets [] x = ⊥
NameInLets (l ∷ lets) x = NameIn l.1 x ⊎ NameInLets lets x

-- x is a name in an atom of the query, be it of a let or of the body
abbrev pub NameOf : QueryTree → VarName → Type 0
NameOf q x = NameInLets q.lets x ⊎ NameIn q.body x

pub record IsSound (q : QueryTree) : Type 0 where
  pub sound_lets : (k : ℕ) → ForSome (slice_get q.lets k) (λ l. IsSoundUnder q.lets k l.1)
  pub sound_body : IsSoundUnder q.lets (length q.lets) q.body
  pub distinct : AreDistinct (map (λ l. l.0) q.lets)
  pub free : (x : VarName) → Has (map (λ l. l.0) q.lets) x → IsFreeName x
  pub few : AtMost MOST_VARIABLES (NameOf q)
