-- Queries each answer of which gives every variable a span (Fagin et al. 2015: functional formulas, unions of equal variables),
-- with the meaning that they had before a variable could be absent. Their laws say that nothing changed for them.
use Rattle.std.specs.Prelude.{◌≡◌, ℕ, zero, suc, ◌<◌, ◌≤◌, ◌⊎◌, ◌↔◌, List, length, map, slice_get, nat_eq, MatchBool, Some, None}
use Rattle.std.specs.Option.{ForSome, IsSomeAnd}
use Rattle.span_core.specs.declared.span.Span.{Span}
use Rattle.span_core.specs.NameSets.{Ascending}
use Rattle.span_core.specs.declared.TheConstants.{MOST_VARIABLES}
use Rattle.span_core.specs.Lists.{Has, AtMost, AreDistinct}
use Rattle.spanner_model.specs.declared.TheConstants.{MOST_NESTED_EXPRESSIONS}
use Rattle.spanner_model.specs.Tree.{Tree, empty, one, cat_end, cat, alt_end, alt, rep, cap}
use Rattle.spanner_model.specs.Captures.{VarName, Mapping}
use Rattle.spanner_model.specs.Sequential.{HasVar, HasNoVar, HaveApartVars}
use Rattle.spanner_model.specs.WellBuilt.{IsWellBuilt}
use Rattle.spanner_model.specs.Expression.{ExprTree, QueryTree, atom, named, union_end, union, join_end, join, project, minus}
use Rattle.spanner_model.specs.Answer.{VarOf, vars_of_lets, IsRestriction, FitsSomewhere}
use Rattle.spanner_model.specs.Sound.{IsFreeName, NameOf, expr_nesting}

-- ---- which formulas and queries

-- an arm has the variables of the arms that follow, if any follows
abbrev pub AgreesWithArms : Tree → Tree → Type 0
AgreesWithArms f alt_end = Unit {0}
AgreesWithArms f rest = (x : VarName) → HasVar f x ↔ HasVar rest x

-- arms have equal variables, parts have no variable in common, nothing under a repetition has a
-- variable, and no capture stands inside another of its name
abbrev pub IsFunctional : Tree → Type 0
IsFunctional empty = Unit {0}
IsFunctional (one set) = Unit {0}
IsFunctional cat_end = Unit {0}
IsFunctional (cat f rest) = IsFunctional f × IsFunctional rest × HaveApartVars f rest
IsFunctional alt_end = Unit {0}
IsFunctional (alt f rest) = IsFunctional f × IsFunctional rest × AgreesWithArms f rest
IsFunctional (rep f least most) = IsFunctional f × HasNoVar f
IsFunctional (cap x f) = IsFunctional f × (HasVar f x → ⊥)

-- a part of a union has the variables of the parts that follow, if any follows
abbrev pub AgreesWithParts : (ℕ → VarName → Type 0) → ExprTree → ExprTree → Type 0
AgreesWithParts V e union_end = Unit {0}
AgreesWithParts V e rest = (x : VarName) → VarOf V e x ↔ VarOf V rest x

-- an expression of functional formulas and unions of equal variables under n lets, of which V k has the variables of the let k
abbrev mutual
  pub IsFunctionalExpr : (ℕ → VarName → Type 0) → ℕ → ExprTree → Type 0
  IsFunctionalExpr V n (atom a) = IsWellBuilt a.formula × IsFunctional a.formula
  IsFunctionalExpr V n (named k) = k < n
  IsFunctionalExpr V n union_end = ⊥
  IsFunctionalExpr V n (union e rest) = IsFunctionalExpr V n e × AreUnitedEqual V n rest × ¬ (rest ≡ union_end) × AgreesWithParts V e rest
  IsFunctionalExpr V n join_end = ⊥
  IsFunctionalExpr V n (join e rest) = IsFunctionalExpr V n e × AreJoinedFunctional V n rest × ¬ (rest ≡ join_end)
  IsFunctionalExpr V n (project names e) =
      IsFunctionalExpr V n e × ((x : VarName) → Has names x → VarOf V e x × IsFreeName x) × Ascending names
  IsFunctionalExpr V n (minus e g) = IsFunctionalExpr V n e × IsFunctionalExpr V n g × ((x : VarName) → VarOf V e x ↔ VarOf V g x)

  -- the parts that follow one of a union
  pub AreUnitedEqual : (ℕ → VarName → Type 0) → ℕ → ExprTree → Type 0
  AreUnitedEqual V n union_end = Unit {0}
  AreUnitedEqual V n (union e rest) = IsFunctionalExpr V n e × AreUnitedEqual V n rest × AgreesWithParts V e rest
  AreUnitedEqual V n _ = ⊥

  -- the parts that follow one of a join
  pub AreJoinedFunctional : (ℕ → VarName → Type 0) → ℕ → ExprTree → Type 0
  AreJoinedFunctional V n join_end = Unit {0}
  AreJoinedFunctional V n (join e rest) = IsFunctionalExpr V n e × AreJoinedFunctional V n rest
  AreJoinedFunctional V n _ = ⊥

abbrev pub IsFunctionalUnder : List (VarName × ExprTree) → ℕ → ExprTree → Type 0
IsFunctionalUnder lets n e = IsFunctionalExpr (vars_of_lets lets n) n e × (expr_nesting e ≤ MOST_NESTED_EXPRESSIONS)

pub record IsFunctionalQuery (q : QueryTree) : Type 0 where
  pub lets_are : (k : ℕ) → ForSome (slice_get q.lets k) (λ l. IsFunctionalUnder q.lets k l.1)
  pub body_is : IsFunctionalUnder q.lets (length q.lets) q.body
  pub distinct : AreDistinct (map (λ l. l.0) q.lets)
  pub free : (x : VarName) → Has (map (λ l. l.0) q.lets) x → IsFreeName x
  pub few : AtMost MOST_VARIABLES (NameOf q)

-- ---- their answers

-- m has exactly these variables
abbrev pub HasExactly : (VarName → Type 0) → Mapping → Type 0
HasExactly V m = ((x : VarName) → V x → (s : Span) × (m x ≡ Some s)) × ((x : VarName) → (V x → ⊥) → m x ≡ None)

-- m is an answer on d, where a join's answer has exactly the variables of its parts
module _ (V : ℕ → VarName → Type 0) (A : ℕ → Mapping → Type 0) (d : List ℕ) where
  abbrev pub TotalAnswer : ExprTree → Mapping → Type 0
  TotalAnswer (atom a) m = FitsSomewhere a d m
  TotalAnswer (named k) m = A k m
  TotalAnswer union_end m = ⊥
  TotalAnswer (union e rest) m = TotalAnswer e m ⊎ TotalAnswer rest m
  TotalAnswer join_end m = HasExactly (λ x. ⊥) m
  TotalAnswer (join e rest) m =
      (n1 : Mapping) × (n2 : Mapping)
      × IsRestriction (VarOf V e) m n1 × TotalAnswer e n1
      × IsRestriction (VarOf V rest) m n2 × TotalAnswer rest n2
      × HasExactly (λ x. VarOf V e x ⊎ VarOf V rest x) m
  TotalAnswer (project names e) m = (n : Mapping) × TotalAnswer e n × IsRestriction (Has names) n m
  TotalAnswer (minus e g) m = TotalAnswer e m × ¬ TotalAnswer g m

-- the answers of the first n lets, by number
abbrev pub total_answers_of_lets : List (VarName × ExprTree) → List ℕ → ℕ → ℕ → Mapping → Type 0
total_answers_of_lets lets d zero k m = ⊥
total_answers_of_lets lets d (suc n) k m =
    MatchBool (nat_eq k n)
    (IsSomeAnd (slice_get lets n) (λ l. TotalAnswer (vars_of_lets lets n) (total_answers_of_lets lets d n) d l.1 m))
    (total_answers_of_lets lets d n k m)

abbrev pub IsTotalAnswer : QueryTree → List ℕ → Mapping → Type 0
IsTotalAnswer q d = TotalAnswer (vars_of_lets q.lets (length q.lets)) (total_answers_of_lets q.lets d (length q.lets)) d q.body
