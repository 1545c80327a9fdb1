-- Lists in a strict order are told by their members.
use Rattle.std.proofs.Common.{◌≡◌, ℕ, ◌<◌, ◌≤◌, ltb-true, ltb-false, cond, Bool, true, false, List, [], ◌∷◌, inl, inr, refl, sym, subst, arith, Contains, eqb}
use Rattle.std.specs.Prelude.{if◌then◌else◌, nat_eq, nat_lt}
use Rattle.std.specs.List.{AllByRecursion, dedup}
use Rattle.std.specs.List.Sorted.{IsPermutation, IsSorted, IsStrictlySortedBy}
use Rattle.std.specs.Ordering.{nat_cmp}
use Rattle.std.specs.declared.cmp.Ordering.TheVariants.{Less, Equal, Greater}
use Rattle.std.proofs.lemmas.Bool.{cases_lt, eqb-false}
use Rattle.std.proofs.lemmas.List.Kept.{Contains-dedup_nat, Contains-from_dedup}
use Rattle.std.proofs.lemmas.List.Sorted.{Contains-permutation, IsPermutation-sym}
use Rattle.std.proofs.lemmas.Map.Keys.{IsStrictlyIncreasing-dedup, sorted_from_strictly_increasing}
use Rattle.span_core.specs.Lists.{Has, IsInOrder}
use Rattle.span_core.proofs.HasLaws.{Has-Contains, Contains-Has}
use Rattle.span_core.proofs.ListLaws.{all_has, same_in_order}
use Rattle.automaton_reading.specs.Reading.{put_up, put_down, set_of, blocks_down}
use Rattle.automaton_reading.proofs.Determined.{put_up_cases, put_down_cases, set_has, has_set, blocks_has, has_block}

pub has_all : {X : Type 0} (P : X → Type 0) (xs : List X) → ((x : X) → Has xs x → P x) → AllByRecursion P xs
has_all P [] all = tt
has_all P (y ∷ xs) all = (all y (inl refl), has_all P xs (λ x h. all x (inr h)))

pub ascending_same : (xs ys : List ℕ) → IsInOrder ◌<◌ xs → IsInOrder ◌<◌ ys → ((x : ℕ) → Has xs x → Has ys x) → ((x : ℕ) → Has ys x → Has xs x) → xs ≡ ys
ascending_same xs ys = same_in_order ◌<◌ (λ x y h g. let a : x < y = h in let b : y < x = g in omega (arith, a, b)) xs ys

abbrev pub Above : ℕ → ℕ → Type 0
Above x y = y < x

pub descending_same : (xs ys : List ℕ) → IsInOrder Above xs → IsInOrder Above ys → ((x : ℕ) → Has xs x → Has ys x) → ((x : ℕ) → Has ys x → Has xs x) → xs ≡ ys
descending_same xs ys = same_in_order Above (λ x y h g. let a : y < x = h in let b : x < y = g in omega (arith, a, b)) xs ys

pub put_up_in_order : (p : ℕ) (qs : List ℕ) → IsInOrder ◌<◌ qs → IsInOrder ◌<◌ (put_up p qs)
put_up_in_order p [] h = (tt, tt)
put_up_in_order p (q ∷ qs) h = go (put_up_in_order p qs h.1) (nat_lt p q) refl (nat_eq p q) refl
  where
    go : IsInOrder ◌<◌ (put_up p qs) → (a : Bool) → nat_lt p q ≡ a → (b : Bool) → nat_eq p q ≡ b →
        IsInOrder ◌<◌ (if a then p ∷ q ∷ qs else (if b then q ∷ qs else q ∷ put_up p qs))
    go rest true l b e =
        let less : p < q = ltb-true p q l in
        (has_all (λ x. p < x) (q ∷ qs) (λ x m. elim m as (λ _. p < x) [ inl f ↦ omega (arith, f, less) | inr g ↦ omega (arith, less, all_has (λ y. q < y) qs x h.0 g) ]), h)
    go rest false l true e = h
    go rest false l false e =
        let no_less : q ≤ p = ltb-false p q l in
        let other : p ≡ q → ⊥ = eqb-false p q e in (
          has_all (λ x. q < x) (put_up p qs) (λ x m. elim (put_up_cases p qs x m) as (λ _. q < x) [
            | inl f ↦ elim (cases_lt q p) as (λ _. q < x) [ inl g ↦ omega (arith, f, g) | inr g ↦ absurd (other (omega (arith, g, no_less))) ]
            | inr g ↦ all_has (λ y. q < y) qs x h.0 g
          ]),
          rest,
        )

pub set_in_order : (xs : List ℕ) → IsInOrder ◌<◌ (set_of xs)
set_in_order [] = tt
set_in_order (x ∷ xs) = put_up_in_order x (set_of xs) (set_in_order xs)

pub put_down_in_order : (p : ℕ) (qs : List ℕ) → IsInOrder Above qs → IsInOrder Above (put_down p qs)
put_down_in_order p [] h = (tt, tt)
put_down_in_order p (q ∷ qs) h = go (put_down_in_order p qs h.1) (nat_lt q p) refl (nat_eq p q) refl
  where
    go : IsInOrder Above (put_down p qs) → (a : Bool) → nat_lt q p ≡ a → (b : Bool) → nat_eq p q ≡ b →
        IsInOrder Above (if a then p ∷ q ∷ qs else (if b then q ∷ qs else q ∷ put_down p qs))
    go rest true l b e =
        let less : q < p = ltb-true q p l in
        (has_all (λ x. x < p) (q ∷ qs) (λ x m. elim m as (λ _. x < p) [ inl f ↦ omega (arith, f, less) | inr g ↦ omega (arith, less, all_has (λ y. y < q) qs x h.0 g) ]), h)
    go rest false l true e = h
    go rest false l false e =
        let no_less : p ≤ q = ltb-false q p l in
        let other : p ≡ q → ⊥ = eqb-false p q e in (
          has_all (λ x. x < q) (put_down p qs) (λ x m. elim (put_down_cases p qs x m) as (λ _. x < q) [
            | inl f ↦ elim (cases_lt p q) as (λ _. x < q) [ inl g ↦ omega (arith, f, g) | inr g ↦ absurd (other (omega (arith, g, no_less))) ]
            | inr g ↦ all_has (λ y. y < q) qs x h.0 g
          ]),
          rest,
        )

pub blocks_in_order : (xs : List ℕ) → IsInOrder Above (blocks_down xs)
blocks_in_order [] = tt
blocks_in_order (x ∷ xs) = put_down_in_order x (blocks_down xs) (blocks_in_order xs)

pub set_is : (xs ys : List ℕ) → IsInOrder ◌<◌ ys → ((x : ℕ) → Has ys x → Has xs x) → ((x : ℕ) → Has xs x → Has ys x) → ys ≡ set_of xs
set_is xs ys up there back = ascending_same ys (set_of xs) up (set_in_order xs) (λ x h. set_has xs x (there x h)) (λ x h. back x (has_set xs x h))

pub blocks_are : (xs ys : List ℕ) → IsInOrder Above ys → ((x : ℕ) → Has ys x → Has xs x) → ((x : ℕ) → Has xs x → Has ys x) → ys ≡ blocks_down xs
blocks_are xs ys down there back = descending_same ys (blocks_down xs) down (blocks_in_order xs) (λ x h. blocks_has xs x (there x h)) (λ x h. back x (has_block xs x h))

-- what is sorted by numbers, in the words of lists
sorted_in_order : (xs : List ℕ) → IsStrictlySortedBy nat_cmp xs → IsInOrder ◌<◌ xs
unfolding IsStrictlySortedBy
sorted_in_order [] h = tt
sorted_in_order (x ∷ xs) h = (has_all (λ y. x < y) xs (λ y m. less x y (all_has (λ z. nat_cmp x z ≡ Less) xs y h.0 m)), sorted_in_order xs h.1)
  where
    less : (a b : ℕ) → nat_cmp a b ≡ Less → a < b
    less a b e = go (nat_lt a b) refl (nat_eq a b) e
      where
        go : (s : Bool) → nat_lt a b ≡ s → (t : Bool) → cond s Less (cond t Equal Greater) ≡ Less → a < b
        go true l t e = ltb-true a b l
        go false l true e = absurd (cc)
        go false l false e = absurd (cc)

-- what a sort and then a removal of repeats leave
pub sorted_once : (xs ys zs : List ℕ) → IsPermutation xs ys → IsSorted nat_cmp ys → zs ≡ dedup eqb ys → zs ≡ set_of xs
sorted_once xs ys zs moved sorted is =
    set_is xs zs
    (subst (IsInOrder ◌<◌) (sym is) (sorted_in_order (dedup eqb ys) (sorted_from_strictly_increasing (dedup eqb ys) (IsStrictlyIncreasing-dedup ys sorted))))
    (λ x h. Has-Contains xs x (Contains-permutation ys xs x (IsPermutation-sym xs ys moved) (Contains-from_dedup eqb ys x (rw (← is) (Contains-Has zs x h)))))
    (λ x h. Has-Contains zs x (back x h))
  where
    back : (x : ℕ) → Has xs x → Contains zs x
    back x h = rw is (Contains-dedup_nat ys x (Contains-permutation xs ys x moved (Contains-Has xs x h)))
