-- What is sound is formed.
use Rattle.std.proofs.Common.{ℕ, ◌≤◌, List, length, get_or, inl, inr, arith}
use Rattle.span_core.specs.declared.TheConstants.{MOST_VARIABLES}
use Rattle.span_core.specs.Lists.{Has, AtMost}
use Rattle.span_core.specs.NameSets.{Ascending, AreVariables}
use Rattle.span_core.proofs.HasLaws.{Has-get_or, distinct-le}
use Rattle.spanner_model.specs.Captures.{VarName}
use Rattle.spanner_model.specs.Expression.{ExprTree, QueryTree, atom, named, union_end, union, join_end, join, project, minus}
use Rattle.spanner_model.specs.Answer.{VarOf, vars_of_lets}
use Rattle.spanner_model.specs.Sound.{IsFreeName, sure_of_lets, IsSoundExpr, AreUnited, AreJoined, NameIn, NameOf, IsSound}
use Rattle.spanner_model.proofs.ExprLaws.{var_named, let_named, lets_named}
use Rattle.spanner_model.proofs.NameLaws.{ascending-distinct}
use Rattle.query_parser.specs.Formed.{IsFormed, AreUnitedFormed, AreJoinedFormed, IsFormedQuery}

-- a set of names of the query has no more than these
kept_set : (N : VarName → Type 0) → AtMost MOST_VARIABLES N → (names : List VarName) → Ascending names → ((x : VarName) → Has names x → IsFreeName x × N x) → AreVariables names
kept_set N least names up are = record {
  few = (let le = distinct-le names least.0 (ascending-distinct names up) (λ x h. least.2 x (are x h).1) in omega (arith, le, least.1));
  ascending = up;
  named = λ k d l. (are (get_or names k d) (Has-get_or names k d l)).0.0;
}

-- an expression under lets whose variables are of these names, as are those of its atoms
module _ (V S : ℕ → VarName → Type 0) (N : VarName → Type 0) (few : AtMost MOST_VARIABLES N) (known : (k : ℕ) (x : VarName) → V k x → N x) where
  of_these : (n : ℕ) (e : ExprTree) → ((x : VarName) → NameIn e x → N x) → IsSoundExpr V S n e → (x : VarName) → VarOf V e x → N x
  of_these n e names h x v = elim (var_named V S N known n e x h v) as (λ _. N x) [ inl a ↦ names x a | inr b ↦ b ]

  mutual
    pub sound_formed : (n : ℕ) (e : ExprTree) → ((x : VarName) → NameIn e x → N x) → IsSoundExpr V S n e → IsFormed n e
    sound_formed n (atom a) names h = h.0
    sound_formed n (named k) names h = h
    sound_formed n union_end names h = absurd h
    sound_formed n (union e rest) names h = (sound_formed n e (λ x a. names x (inl a)) h.0, united_formed n rest (λ x a. names x (inr a)) h.1, h.2)
    sound_formed n join_end names h = absurd h
    sound_formed n (join e rest) names h = (sound_formed n e (λ x a. names x (inl a)) h.0, joined_formed n rest (λ x a. names x (inr a)) h.1, h.2)
    sound_formed n (project keep e) names h = (
      sound_formed n e names h.0,
      (λ x has. (h.1 x has).1),
      kept_set N few keep h.2 (λ x has. ((h.1 x has).1, of_these n e names h.0 x (h.1 x has).0)),
    )
    sound_formed n (minus e g) names h = (sound_formed n e (λ x a. names x (inl a)) h.0, sound_formed n g (λ x a. names x (inr a)) h.1)

    united_formed : (n : ℕ) (e : ExprTree) → ((x : VarName) → NameIn e x → N x) → AreUnited V S n e → AreUnitedFormed n e
    united_formed n union_end names h = tt
    united_formed n (union e rest) names h = (sound_formed n e (λ x a. names x (inl a)) h.0, united_formed n rest (λ x a. names x (inr a)) h.1)
    united_formed n _ names h = absurd h

    joined_formed : (n : ℕ) (e : ExprTree) → ((x : VarName) → NameIn e x → N x) → AreJoined V S n e → AreJoinedFormed n e
    joined_formed n join_end names h = tt
    joined_formed n (join e rest) names h = (sound_formed n e (λ x a. names x (inl a)) h.0, joined_formed n rest (λ x a. names x (inr a)) h.1)
    joined_formed n _ names h = absurd h

pub query_is_formed : (q : QueryTree) → IsSound q → IsFormedQuery q
query_is_formed q s = (
  λ k l at. sound_formed (vars_of_lets q.lets k) (sure_of_lets q.lets k) (NameOf q) s.few (lets_have k) k l.1 (λ x h. inl (let_named q.lets k l x at h)) (s.sound_lets k l at).0,
  sound_formed (vars_of_lets q.lets (length q.lets)) (sure_of_lets q.lets (length q.lets)) (NameOf q) s.few (lets_have (length q.lets)) (length q.lets) q.body (λ x h. inr h) s.sound_body.0,
)
  where
    lets_have : (n k : ℕ) (x : VarName) → vars_of_lets q.lets n k x → NameOf q x
    lets_have n k x v = inl (lets_named q.lets s.sound_lets n k x v)

-- under more lets it is formed too
mutual
  pub formed_under : (n m : ℕ) (e : ExprTree) → n ≤ m → IsFormed n e → IsFormed m e
  formed_under n m (atom a) le h = h
  formed_under n m (named k) le h = omega (arith, le, h)
  formed_under n m union_end le h = absurd h
  formed_under n m (union e rest) le h = (formed_under n m e le h.0, united_under n m rest le h.1, h.2)
  formed_under n m join_end le h = absurd h
  formed_under n m (join e rest) le h = (formed_under n m e le h.0, joined_under n m rest le h.1, h.2)
  formed_under n m (project names e) le h = (formed_under n m e le h.0, h.1, h.2)
  formed_under n m (minus e g) le h = (formed_under n m e le h.0, formed_under n m g le h.1)

  united_under : (n m : ℕ) (e : ExprTree) → n ≤ m → AreUnitedFormed n e → AreUnitedFormed m e
  united_under n m union_end le h = tt
  united_under n m (union e rest) le h = (formed_under n m e le h.0, united_under n m rest le h.1)
  united_under n m _ le h = absurd h

  joined_under : (n m : ℕ) (e : ExprTree) → n ≤ m → AreJoinedFormed n e → AreJoinedFormed m e
  joined_under n m join_end le h = tt
  joined_under n m (join e rest) le h = (formed_under n m e le h.0, joined_under n m rest le h.1)
  joined_under n m _ le h = absurd h
