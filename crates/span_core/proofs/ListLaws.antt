-- What stands at a place of a list, prefixes, and lists whose elements all are of a kind.
use Rattle.std.proofs.Common.{◌≡◌, ℕ, zero, suc, ◌+◌, ◌<◌, ◌≤◌, ◌⊎◌, Bool, true, false, cond, List, [], ◌∷◌, ◌++◌, length, set, drop, replicate, Some, inl, inr, refl, sym, ap, ◌∙◌, subst, arith, append_assoc, append-nil}
use Rattle.std.specs.Prelude.{slice_get}
use Rattle.std.specs.List.{AllByRecursion, filter}
use Rattle.std.proofs.lemmas.Option.{same_Some, slice_get_within, get_or_from_slice_get}
use Rattle.std.proofs.lemmas.List.{drop_more}
use Rattle.span_core.specs.Lists.{Has, IsPrefixOf, IsInOrder}

module _ {X : Type 0} where
  -- a place that is there
  pub get_there : (xs : List X) (i : ℕ) → i < length xs → (x : X) × (slice_get xs i ≡ Some x)
  get_there [] i h = absurd (omega (arith, h))
  get_there (x ∷ xs) zero h = (x, refl)
  get_there (x ∷ xs) (suc i) h = get_there xs i (omega (arith, h))

  pub get_left : (xs ys : List X) (i : ℕ) (x : X) → slice_get xs i ≡ Some x → slice_get (xs ++ ys) i ≡ Some x
  get_left [] ys i x e = absurd (cc)
  get_left (y ∷ xs) ys zero x e = e
  get_left (y ∷ xs) ys (suc i) x e = get_left xs ys i x e

  -- one more at the end
  pub get_last : (xs : List X) (x : X) → slice_get (xs ++ x ∷ []) (length xs) ≡ Some x
  get_last [] x = refl
  get_last (y ∷ xs) x = get_last xs x

  pub get_more_cases : (xs : List X) (y x : X) (i : ℕ) → slice_get (xs ++ y ∷ []) i ≡ Some x → (slice_get xs i ≡ Some x) ⊎ ((i ≡ length xs) × (y ≡ x))
  get_more_cases [] y x zero e = inr (refl, same_Some y x e)
  get_more_cases [] y x (suc i) e = absurd (cc)
  get_more_cases (z ∷ xs) y x zero e = inl e
  get_more_cases (z ∷ xs) y x (suc i) e = elim (get_more_cases xs y x i e) [ inl a ↦ inl a | inr b ↦ inr (ap suc b.0, b.1) ]

  pub get_set_same : (xs : List X) (i : ℕ) (x : X) → i < length xs → slice_get (set xs i x) i ≡ Some x
  get_set_same [] i x h = absurd (omega (arith, h))
  get_set_same (y ∷ xs) zero x h = refl
  get_set_same (y ∷ xs) (suc i) x h = get_set_same xs i x (omega (arith, h))

  -- what is left begins with what stands at the place
  pub at_drop : (xs : List X) (k : ℕ) (x : X) → slice_get xs k ≡ Some x → drop k xs ≡ x ∷ drop (k + 1) xs
  at_drop xs k x e = drop_more xs k x (slice_get_within xs k x e) ∙ ap (λ y. y ∷ drop (k + 1) xs) (get_or_from_slice_get xs k x x e)

  pub either_part : (xs ys : List X) (k : ℕ) (x : X) → slice_get (xs ++ ys) k ≡ Some x → (slice_get xs k ≡ Some x) ⊎ ((j : ℕ) × (slice_get ys j ≡ Some x))
  either_part [] ys k x at = inr (k, at)
  either_part (y ∷ xs) ys zero x at = inl at
  either_part (y ∷ xs) ys (suc k) x at = either_part xs ys k x at

  pub prefix_same : (xs : List X) → IsPrefixOf xs xs
  prefix_same xs = record { rest = []; joined = sym (append-nil xs) }

  pub prefix_then : (xs ys zs : List X) → IsPrefixOf xs ys → IsPrefixOf ys zs → IsPrefixOf xs zs
  prefix_then xs ys zs a b = record { rest = a.rest ++ b.rest; joined = b.joined ∙ ap (λ (w : List X). w ++ b.rest) a.joined ∙ append_assoc xs a.rest b.rest }

  -- behind p, u is left of t
  pub appended : (a p n t u whole : List X) → n ≡ a ++ p → t ≡ p ++ u → a ++ t ≡ whole → n ++ u ≡ whole
  appended a p n t u whole e f h = ap (λ (xs : List X). xs ++ u) e ∙ append_assoc a p u ∙ ap (λ (xs : List X). a ++ xs) (sym f) ∙ h

  -- what holds of all holds of each
  pub all_has : (P : X → Type 0) (xs : List X) (x : X) → AllByRecursion P xs → Has xs x → P x
  all_has P [] x all h = absurd h
  all_has P (y ∷ xs) x all (inl e) = subst P e all.0
  all_has P (y ∷ xs) x all (inr h) = all_has P xs x all.1 h

  -- a filter gives no more
  pub filter_no_more : (test : X → Bool) (xs : List X) → length (filter test xs) ≤ length xs
  filter_no_more test [] = omega arith
  filter_no_more test (x ∷ xs) = go (test x) (filter_no_more test xs)
    where
      go : (b : Bool) → length (filter test xs) ≤ length xs → length (cond b (x ∷ filter test xs) (filter test xs)) ≤ suc (length xs)
      go true h = omega (arith, h)
      go false h = omega (arith, h)

pub zeros : (n k e : ℕ) → slice_get (replicate n 0) k ≡ Some e → e ≡ 0
zeros zero k e at = absurd (cc)
zeros (suc n) zero e at = sym (same_Some 0 e at)
zeros (suc n) (suc k) e at = zeros n k e at

module _ {X : Type 0} (Before : X → X → Type 0) (apart : (x y : X) → Before x y → Before y x → ⊥) where
  heads : (x y : X) (xs ys : List X) → IsInOrder Before (x ∷ xs) → IsInOrder Before (y ∷ ys) → Has (y ∷ ys) x → Has (x ∷ xs) y → x ≡ y
  heads x y xs ys up vp (inl e) b = sym e
  heads x y xs ys up vp (inr a) (inl e) = e
  heads x y xs ys up vp (inr a) (inr b) = absurd (apart x y (all_has (Before x) xs y up.0 b) (all_has (Before y) ys x vp.0 a))

  tail : (x z : X) (xs ys : List X) → IsInOrder Before (x ∷ xs) → Has xs z → Has (x ∷ ys) z → Has ys z
  tail x z xs ys up a (inl e) = let b = all_has (Before x) xs z up.0 a in absurd (apart x x (subst (Before x) (sym e) b) (subst (Before x) (sym e) b))
  tail x z xs ys up a (inr h) = h

  -- lists in order with the same members are equal
  pub same_in_order : (xs ys : List X) → IsInOrder Before xs → IsInOrder Before ys → ((z : X) → Has xs z → Has ys z) → ((z : X) → Has ys z → Has xs z) → xs ≡ ys
  same_in_order [] [] up vp f g = refl
  same_in_order [] (y ∷ ys) up vp f g = absurd (g y (inl refl))
  same_in_order (x ∷ xs) [] up vp f g = absurd (f x (inl refl))
  same_in_order (x ∷ xs) (y ∷ ys) up vp f g =
      let e : x ≡ y = heads x y xs ys up vp (f x (inl refl)) (g y (inl refl)) in
      let up' : IsInOrder Before (y ∷ xs) = subst (λ (h : X). IsInOrder Before (h ∷ xs)) e up in
      let rest : xs ≡ ys = same_in_order xs ys up.1 vp.1
      (λ z h. tail y z xs ys up' h (f z (inr h)))
      (λ z h. tail y z ys xs vp h (subst (λ (k : X). Has (k ∷ xs) z) e (g z (inr h)))) in
      ap (λ k. k ∷ xs) e ∙ ap (λ k. y ∷ k) rest
