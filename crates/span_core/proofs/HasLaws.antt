-- Membership, and how many things a list has.
use Rattle.std.proofs.Common.{◌≡◌, ℕ, zero, suc, ◌+◌, ◌<◌, ◌≤◌, ◌⊎◌, List, [], ◌∷◌, ◌++◌, length, get_or, take, map, Contains, inl, inr, refl, sym, ap, ◌∙◌, subst, arith, Some}
use Rattle.std.specs.Prelude.{slice_get}
use Rattle.std.proofs.lemmas.List.{take_more}
use Rattle.span_core.specs.Lists.{Has, AreDistinct}

module _ {X : Type 0} where
  pub Has-append_left : (xs ys : List X) (x : X) → Has xs x → Has (xs ++ ys) x
  Has-append_left [] ys x h = absurd h
  Has-append_left (y ∷ xs) ys x (inl e) = inl e
  Has-append_left (y ∷ xs) ys x (inr h) = inr (Has-append_left xs ys x h)

  pub Has-append_right : (xs ys : List X) (x : X) → Has ys x → Has (xs ++ ys) x
  Has-append_right [] ys x h = h
  Has-append_right (y ∷ xs) ys x h = inr (Has-append_right xs ys x h)

  pub Has-append_cases : (xs ys : List X) (x : X) → Has (xs ++ ys) x → Has xs x ⊎ Has ys x
  Has-append_cases [] ys x h = inr h
  Has-append_cases (y ∷ xs) ys x (inl e) = inl (inl e)
  Has-append_cases (y ∷ xs) ys x (inr h) =
      elim (Has-append_cases xs ys x h) [ inl a ↦ inl (inr a) | inr b ↦ inr b ]

  pub Has-get_or : (xs : List X) (i : ℕ) (d : X) → i < length xs → Has xs (get_or xs i d)
  Has-get_or [] i d h = absurd (omega arith)
  Has-get_or (x ∷ xs) zero d h = inl refl
  Has-get_or (x ∷ xs) (suc i) d h = inr (Has-get_or xs i d (omega arith))

  -- two lists without repeats that share nothing are one without repeats
  pub distinct_append : (xs ys : List X) → AreDistinct xs → AreDistinct ys → ((x : X) → Has xs x → Has ys x → ⊥) → AreDistinct (xs ++ ys)
  distinct_append [] ys a b apart = b
  distinct_append (x ∷ xs) ys a b apart = (
    (λ h. elim (Has-append_cases xs ys x h) [ inl l ↦ a.0 l | inr r ↦ apart x (inl refl) r ]),
    distinct_append xs ys a.1 b (λ y l r. apart y (inr l) r),
  )

  -- what stands at a place is in the list
  pub Has-slice_get : (xs : List X) (i : ℕ) (x : X) → slice_get xs i ≡ Some x → Has xs x
  Has-slice_get [] i x h = absurd (cc)
  Has-slice_get (y ∷ xs) zero x h = inl (let e : y ≡ x = cc in e)
  Has-slice_get (y ∷ xs) (suc i) x h = inr (Has-slice_get xs i x h)

  -- what is in the list stands at a place
  pub place_of-Has : (xs : List X) (x : X) → Has xs x → (i : ℕ) × (i < length xs) × (slice_get xs i ≡ Some x)
  place_of-Has [] x h = absurd h
  place_of-Has (y ∷ xs) x (inl e) = (zero, omega arith, ap Some e)
  place_of-Has (y ∷ xs) x (inr h) = let p = place_of-Has xs x h in (suc p.0, omega (arith, p.1), p.2)

  pub Has-take : (xs : List X) (k : ℕ) (x : X) → Has (take k xs) x → Has xs x
  Has-take xs zero x h = absurd h
  Has-take [] (suc k) x h = absurd h
  Has-take (y ∷ xs) (suc k) x (inl e) = inl e
  Has-take (y ∷ xs) (suc k) x (inr h) = inr (Has-take xs k x h)

  -- std's word for the same
  pub Has-Contains : (xs : List X) (x : X) → Contains xs x → Has xs x
  Has-Contains xs x h = subst (Has xs) h.2 (Has-get_or xs h.0 x h.1)

  pub Contains-Has : (xs : List X) (x : X) → Has xs x → Contains xs x
  Contains-Has [] x h = absurd h
  Contains-Has (y ∷ xs) x (inl e) = (zero, omega arith, e)
  Contains-Has (y ∷ xs) x (inr h) = let p = Contains-Has xs x h in (suc p.0, omega (arith, p.1), p.2)

  -- the list with one element less: all others are still there
  taken : (ys : List X) (x : X) → Has ys x → (zs : List X) × (length ys ≡ suc (length zs)) × ((y : X) → Has ys y → (x ≡ y) ⊎ Has zs y)
  taken [] x h = absurd h
  taken (y ∷ ys) x (inl e) = (ys, refl, λ z h. elim h as (λ _. (x ≡ z) ⊎ Has ys z) [ inl f ↦ inl (sym e ∙ f) | inr r ↦ inr r ])
  taken (y ∷ ys) x (inr h) =
      let t = taken ys x h in (
        y ∷ t.0,
        omega (arith, t.1),
        λ z g. elim g as (λ _. (x ≡ z) ⊎ Has (y ∷ t.0) z) [
          | inl f ↦ inr (inl f)
          | inr r ↦ elim (t.2 z r) as (λ _. (x ≡ z) ⊎ Has (y ∷ t.0) z) [ inl f ↦ inl f | inr w ↦ inr (inr w) ]
        ],
      )

  -- distinct elements are no more than those of a list that has them all
  pub distinct-le : (xs ys : List X) → AreDistinct xs → ((x : X) → Has xs x → Has ys x) → length xs ≤ length ys
  distinct-le [] ys d all = omega arith
  distinct-le (x ∷ xs) ys d all =
      let t = taken ys x (all x (inl refl)) in
      let others : (z : X) → Has xs z → Has t.0 z = λ z h. elim (t.2 z (all z (inr h))) as (λ _. Has t.0 z) [ inl e ↦ absurd (d.0 (subst (Has xs) (sym e) h)) | inr w ↦ w ] in
      omega (arith, t.1, distinct-le xs t.0 d.1 others)

module _ {X Y : Type 0} (f : X → Y) where
  pub Has-map : (xs : List X) (x : X) → Has xs x → Has (map f xs) (f x)
  Has-map [] x h = absurd h
  Has-map (y ∷ xs) x (inl e) = inl (ap f e)
  Has-map (y ∷ xs) x (inr h) = inr (Has-map xs x h)

  pub Has-map_cases : (xs : List X) (y : Y) → Has (map f xs) y → (x : X) × Has xs x × (f x ≡ y)
  Has-map_cases [] y h = absurd h
  Has-map_cases (x ∷ xs) y (inl e) = (x, inl refl, e)
  Has-map_cases (x ∷ xs) y (inr h) = let r = Has-map_cases xs y h in (r.0, inr r.1, r.2)

-- the elements so far, as a loop counts on
module _ {X : Type 0} where
  pub Has-take_more_cases : (xs : List X) (i : ℕ) (d x : X) → i < length xs → Has (take (i + 1) xs) x → Has (take i xs) x ⊎ (get_or xs i d ≡ x)
  Has-take_more_cases xs i d x within h =
      elim (Has-append_cases (take i xs) (get_or xs i d ∷ []) x (subst (λ ys. Has ys x) (take_more xs i d within) h)) as (λ _. Has (take i xs) x ⊎ (get_or xs i d ≡ x)) [
        | inl a ↦ inl a
        | inr b ↦ elim b as (λ _. Has (take i xs) x ⊎ (get_or xs i d ≡ x)) [ inl e ↦ inr e | inr n ↦ absurd n ]
      ]

  pub Has-take_more_before : (xs : List X) (i : ℕ) (x : X) → i < length xs → Has (take i xs) x → Has (take (i + 1) xs) x
  Has-take_more_before xs i x within h =
      subst (λ ys. Has ys x) (sym (take_more xs i x within)) (Has-append_left (take i xs) (get_or xs i x ∷ []) x h)

  pub Has-take_more_here : (xs : List X) (i : ℕ) (d x : X) → i < length xs → get_or xs i d ≡ x → Has (take (i + 1) xs) x
  Has-take_more_here xs i d x within e =
      subst (λ ys. Has ys x) (sym (take_more xs i d within)) (Has-append_right (take i xs) (get_or xs i d ∷ []) x (inl e))
