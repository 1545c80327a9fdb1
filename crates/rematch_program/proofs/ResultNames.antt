-- The variables of a sound query's result are names.
use Rattle.std.proofs.Common.{◌≡◌, inl, inr, ℕ, suc, List, [], ◌∷◌, length, Some, slice_get, refl, IsTrue}
use Rattle.span_core.specs.Names.{is_name}
use Rattle.spanner_model.specs.Captures.{VarName}
use Rattle.spanner_model.specs.Tree.{Tree, empty, one, cat_end, cat, alt_end, alt, rep, cap}
use Rattle.spanner_model.specs.Sequential.{HasVar}
use Rattle.spanner_model.specs.WellBuilt.{IsBuilt, AreParts, AreArms}
use Rattle.spanner_model.specs.Expression.{ExprTree, QueryTree, atom, named, union_end, union, join_end, join, minus, project}
use Rattle.spanner_model.specs.Answer.{vars_of_lets, IsResultVar}
use Rattle.spanner_model.specs.Sound.{IsSound, IsSoundExpr, AreUnited, AreJoined, NameIn, NameInLets, sure_of_lets}
use Rattle.spanner_model.proofs.ExprLaws.{var_named, lets_named}

mutual
  built_named : (f : Tree) (x : VarName) → IsBuilt f → HasVar f x → IsTrue (is_name x)
  built_named empty x h v = absurd v
  built_named (one set) x h v = absurd v
  built_named cat_end x h v = absurd h
  built_named (cat f rest) x h (inl v) = built_named f x h.0 v
  built_named (cat f rest) x h (inr v) = parts_named rest x h.1 v
  built_named alt_end x h v = absurd h
  built_named (alt f rest) x h (inl v) = built_named f x h.0 v
  built_named (alt f rest) x h (inr v) = arms_named rest x h.1 v
  built_named (rep f least most) x h v = built_named f x h.0 v
  built_named (cap y f) x h (inl e) = rw (← e) h.1.0
  built_named (cap y f) x h (inr v) = built_named f x h.0 v

  parts_named : (f : Tree) (x : VarName) → AreParts f → HasVar f x → IsTrue (is_name x)
  parts_named cat_end x h v = absurd v
  parts_named (cat f rest) x h (inl v) = built_named f x h.0 v
  parts_named (cat f rest) x h (inr v) = parts_named rest x h.1 v
  parts_named _ x h v = absurd h

  arms_named : (f : Tree) (x : VarName) → AreArms f → HasVar f x → IsTrue (is_name x)
  arms_named alt_end x h v = absurd v
  arms_named (alt f rest) x h (inl v) = built_named f x h.0 v
  arms_named (alt f rest) x h (inr v) = arms_named rest x h.1 v
  arms_named _ x h v = absurd h

module _ (V S : ℕ → VarName → Type 0) (n : ℕ) where
  mutual
    name_in : (e : ExprTree) (x : VarName) → IsSoundExpr V S n e → NameIn e x → IsTrue (is_name x)
    name_in (atom a) x h v = built_named a.formula x h.0.0 v
    name_in (named k) x h v = absurd v
    name_in union_end x h v = absurd h
    name_in (union e rest) x h (inl v) = name_in e x h.0 v
    name_in (union e rest) x h (inr v) = united_in rest x h.1 v
    name_in join_end x h v = absurd h
    name_in (join e rest) x h (inl v) = name_in e x h.0 v
    name_in (join e rest) x h (inr v) = joined_in rest x h.1 v
    name_in (project names e) x h v = name_in e x h.0 v
    name_in (minus e g) x h (inl v) = name_in e x h.0 v
    name_in (minus e g) x h (inr v) = name_in g x h.1 v

    united_in : (e : ExprTree) (x : VarName) → AreUnited V S n e → NameIn e x → IsTrue (is_name x)
    united_in union_end x h v = absurd v
    united_in (union e rest) x h (inl v) = name_in e x h.0 v
    united_in (union e rest) x h (inr v) = united_in rest x h.1 v
    united_in _ x h v = absurd h

    joined_in : (e : ExprTree) (x : VarName) → AreJoined V S n e → NameIn e x → IsTrue (is_name x)
    joined_in join_end x h v = absurd v
    joined_in (join e rest) x h (inl v) = name_in e x h.0 v
    joined_in (join e rest) x h (inr v) = joined_in rest x h.1 v
    joined_in _ x h v = absurd h

-- the let of whose atoms it is a name
let_place : (lets : List (VarName × ExprTree)) (x : VarName) → NameInLets lets x → (k : ℕ) × (l : VarName × ExprTree) × (slice_get lets k ≡ Some l) × NameIn l.1 x
let_place [] x h = absurd h
let_place (l ∷ lets) x (inl v) = (0, l, refl, v)
let_place (l ∷ lets) x (inr h) = let (k, m, at, v) = let_place lets x h in (suc k, m, at, v)

let_is_named : (q : QueryTree) (x : VarName) → IsSound q → NameInLets q.lets x → IsTrue (is_name x)
let_is_named q x s h = let (k, l, at, v) = let_place q.lets x h in name_in (vars_of_lets q.lets k) (sure_of_lets q.lets k) k l.1 x (s.sound_lets k l at).0 v

pub result_named : (q : QueryTree) (x : VarName) → IsSound q → IsResultVar q x → IsTrue (is_name x)
result_named q x s v =
    let n = length q.lets in
    elim (var_named (vars_of_lets q.lets n) (sure_of_lets q.lets n) (NameInLets q.lets) (lets_named q.lets s.sound_lets n) n q.body x s.sound_body.0 v) as (λ _. IsTrue (is_name x)) [
      | inl a ↦ name_in (vars_of_lets q.lets n) (sure_of_lets q.lets n) n q.body x s.sound_body.0 a
      | inr b ↦ let_is_named q x s b
    ]
