-- What a stable sort by a number leaves as it was.
use Rattle.std.proofs.Common.{◌≡◌, ℕ, ◌<◌, Bool, true, false, ◌&&◌, not, List, nat_eq, cond, inl, inr, refl, sym, ap, arith, ◌∙◌}
use Rattle.std.specs.Prelude.{nat_lt, ◌==◌}
use Rattle.std.specs.List.{filter}
use Rattle.std.specs.List.Sorted.{IsStableByKey}
use Rattle.std.specs.Ordering.{nat_cmp, is_lt}
use Rattle.std.specs.declared.cmp.Ordering.TheVariants.{Less, Equal, Greater}
use Rattle.std.proofs.lemmas.Bool.{eq-eqb, ne_eqb, lt-ltb, le-ltb}
use Rattle.marked_automaton.proofs.Listed.{compared}
use Rattle.algebra.specs.Pairs.{HaveSameRows}

less_is : (a b : ℕ) → a < b → is_lt (nat_cmp a b) ≡ true
less_is a b l = ap (λ t. is_lt (cond t Less (cond (a == b) Equal Greater))) (lt-ltb a b l)

not_less : (a b : ℕ) → nat_lt a b ≡ false → is_lt (nat_cmp a b) ≡ false
not_less a b e = ap (λ t. is_lt (cond t Less (cond (a == b) Equal Greater))) e ∙ go (a == b)
  where
    go : (c : Bool) → is_lt (cond c Equal Greater) ≡ false
    go true = refl
    go false = refl

tie_is : (a b : ℕ) → (not (is_lt (nat_cmp a b)) && not (is_lt (nat_cmp b a))) ≡ nat_eq b a
tie_is a b =
    elim (compared a b) as (λ _. (not (is_lt (nat_cmp a b)) && not (is_lt (nat_cmp b a))) ≡ nat_eq b a) [
      | inl l ↦ ap (λ t. not t && not (is_lt (nat_cmp b a))) (less_is a b l) ∙ sym (ne_eqb b a (λ e. omega (arith, e, l)))
      | inr r ↦ elim r as (λ _. (not (is_lt (nat_cmp a b)) && not (is_lt (nat_cmp b a))) ≡ nat_eq b a) [
        | inl e ↦
            ap (λ t. not t && not (is_lt (nat_cmp b a))) (not_less a b (le-ltb a b (omega (arith, e))))
            ∙ (ap (λ t. not t) (not_less b a (le-ltb b a (omega (arith, e)))) ∙ sym (eq-eqb b a (sym e)))
        | inr g ↦
            ap (λ t. not t && not (is_lt (nat_cmp b a))) (not_less a b (le-ltb a b (omega (arith, g))))
            ∙ (ap (λ t. not t) (less_is b a g) ∙ sym (ne_eqb b a (λ e. omega (arith, e, g))))
      ]
    ]

-- where some element has each number
pub rows_stay : {X : Type 0} (at : X → ℕ) (with : ℕ → X) → ((p : ℕ) → at (with p) ≡ p) → (old new : List X) → IsStableByKey at nat_cmp old new → HaveSameRows at new old
rows_stay {X} at with is old new stable p =
    let test : (x : X) → (not (is_lt (nat_cmp (at (with p)) (at x))) && not (is_lt (nat_cmp (at x) (at (with p))))) ≡ nat_eq (at x) p =
    λ x. tie_is (at (with p)) (at x) ∙ ap (λ q. nat_eq (at x) q) (is p) in
    sym (λ i. filter (λ x. test x i) new) ∙ (stable (with p) ∙ (λ i. filter (λ x. test x i) old))
