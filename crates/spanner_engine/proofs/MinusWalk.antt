-- Whether a difference stands in some part of a query.
use Rattle.std.proofs.Common.{◌≡◌, ℕ, ◌+◌, ◌≤◌, ◌↔◌, Bool, true, false, IsTrue, List, [], ◌∷◌, length, take, Some, slice_get, inl, inr, refl, sym, subst}
use Rattle.std.proofs.lemmas.Bool.{true≢false}
use Rattle.std.proofs.lemmas.List.{take_all}
use Rattle.span_core.specs.Lists.{Has}
use Rattle.span_core.proofs.HasLaws.{Has-append_cases}
use Rattle.spanner_model.specs.Captures.{VarName}
use Rattle.spanner_model.specs.Expression.{ExprTree, QueryTree, join_all, union_all}
use Rattle.spanner_model.proofs.TreeLaws.{take_at_more}
use Rattle.spanner_engine.specs.Touching.{HasMinus, HasMinusIn}

-- none of these is P
abbrev pub NoneIs : {X : Type 0} → (X → Type 0) → List X → Type 0
NoneIs {X} P xs = (x : X) → Has xs x → ¬ P x

module _ {X : Type 0} (P : X → Type 0) where
  pub none_more : (xs : List X) (k : ℕ) (x : X) → slice_get xs k ≡ Some x → ¬ P x → NoneIs P (take k xs) → NoneIs P (take (k + 1) xs)
  none_more xs k x at not before y has =
      let h = Has-append_cases (take k xs) (x ∷ []) y (rw (← take_at_more xs k x at) has) in
      elim h as (λ _. ¬ P y) [
        | inl early ↦ before y early
        | inr here ↦ elim here as (λ _. ¬ P y) [ inl same ↦ λ p. not (subst P (sym same) p) | inr never ↦ absurd never ]
      ]

  pub none_all : (xs : List X) (k : ℕ) → length xs ≤ k → NoneIs P (take k xs) → NoneIs P xs
  none_all xs k past none = rw (← take_all k xs past) none

-- a difference stands in parts where it does in one of them
pub minus_part : (es : List ExprTree) (e : ExprTree) → Has es e → HasMinusIn e → HasMinusIn (join_all es)
minus_part [] e h m = absurd h
minus_part (g ∷ es) e (inl same) m = inl (subst HasMinusIn (sym same) m)
minus_part (g ∷ es) e (inr h) m = inr (minus_part es e h m)

pub minus_none : (es : List ExprTree) → NoneIs HasMinusIn es → ¬ HasMinusIn (join_all es)
minus_none [] none m = m
minus_none (e ∷ es) none (inl m) = none e (inl refl) m
minus_none (e ∷ es) none (inr m) = minus_none es (λ g h. none g (inr h)) m

pub minus_union : (es : List ExprTree) → HasMinusIn (join_all es) ↔ HasMinusIn (union_all es)
minus_union [] = (λ h. h, λ h. h)
minus_union (e ∷ es) =
    let later = minus_union es in (
      λ h. elim h as (λ _. HasMinusIn (union_all (e ∷ es))) [ inl a ↦ inl a | inr b ↦ inr (later.0 b) ],
      λ h. elim h as (λ _. HasMinusIn (join_all (e ∷ es))) [ inl a ↦ inl a | inr b ↦ inr (later.1 b) ],
    )

-- what a test that comes out false tells
pub not_of : (b : Bool) (P : Type 0) → b ≡ false → IsTrue b ↔ P → ¬ P
not_of true P is both p = true≢false is
not_of false P is both p = true≢false (sym (both.1 p))

-- in a query, whose lets have none
pub minus_body : (q : QueryTree) (b : Bool) → NoneIs (λ (l : VarName × ExprTree). HasMinusIn l.1) q.lets → IsTrue b ↔ HasMinusIn q.body → IsTrue b ↔ HasMinus q
minus_body q b none both = (
  λ h. inr (both.0 h),
  λ h. elim h as (λ _. IsTrue b) [ inl l ↦ absurd (none l.0 l.1 l.2) | inr m ↦ both.1 m ],
)
