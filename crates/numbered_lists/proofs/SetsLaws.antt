-- Sets that are kept in an index.
use Rattle.std.proofs.Common.{◌≡◌, ℕ, zero, suc, ◌<◌, ◌⊎◌, Bool, true, false, List, [], ◌∷◌, ◌++◌, length, map, Some, inl, inr, refl, sym, ap, subst, arith, ◌∙◌, append_assoc}
use Rattle.std.specs.Prelude.{if◌then◌else◌, ◌||◌, slice_get}
use Rattle.std.specs.List.{list_any, IsDistinct}
use Rattle.std.specs.Str.{bytes_eq}
use Rattle.std.proofs.lemmas.List.{append-nil, map-append}
use Rattle.std.proofs.lemmas.Option.{slice_get-get_or}
use Rattle.automaton_reading.proofs.MeasureLaws.{bytes_itself}
use Rattle.indexmap.specs.IndexSet.{insert_key}
use Rattle.span_core.specs.Lists.{AreDistinct, Has}
use Rattle.span_core.proofs.HasLaws.{Has-append_cases, Has-get_or, Has-map_cases}
use Rattle.span_core.proofs.ListLaws.{all_has}
use Rattle.numbered_lists.specs.Numbered.{IsLongerBy, set_at, with_set, with_sets}

-- values that are compared by their lists
module _ {X : Type 0} (f : X → List ℕ) (eq : X → X → Bool) (is : (x y : X) → eq x y ≡ bytes_eq (f x) (f y)) where
  any_map : (v : X) (vs : List X) → list_any (eq v) vs ≡ list_any (bytes_eq (f v)) (map f vs)
  any_map v [] = refl
  any_map v (x ∷ vs) = let rest = any_map v vs in (λ i. is v x i || rest i)

  pub insert_map : (vs : List X) (v : X) → map f (insert_key eq vs v) ≡ with_set (map f vs) (f v)
  insert_map vs v = go (list_any (eq v) vs) refl
    where
      go : (b : Bool) → list_any (eq v) vs ≡ b → map f (insert_key eq vs v) ≡ with_set (map f vs) (f v)
      go true e =
          ap (λ (c : Bool). map f (if c then vs else vs ++ v ∷ [])) e
          ∙ sym (ap (λ (c : Bool). if c then map f vs else map f vs ++ f v ∷ []) (sym (any_map v vs) ∙ e))
      go false e =
          ap (λ (c : Bool). map f (if c then vs else vs ++ v ∷ [])) e
          ∙ (map-append f vs (v ∷ []) ∙ sym (ap (λ (c : Bool). if c then map f vs else map f vs ++ f v ∷ []) (sym (any_map v vs) ∙ e)))

  pub lists_apart : (vs : List X) → IsDistinct eq vs → AreDistinct (map f vs)
  unfolding IsDistinct
  lists_apart [] d = tt
  lists_apart (v ∷ vs) d = (
    (λ h.
        let m = Has-map_cases f vs (f v) h in
        let e : eq v m.0 ≡ false = all_has (λ y. eq v y ≡ false) vs m.0 d.0 m.1 in
        let t : eq v m.0 ≡ true = is v m.0 ∙ (ap (bytes_eq (f v)) m.2 ∙ bytes_itself (f v)) in
        differ (sym e ∙ t)),
    lists_apart vs d.1,
  )
    where
      differ : false ≡ true → ⊥
      differ e = cc

-- ---- sets with one put in

pub with_set_cases : (sets : List (List ℕ)) (s : List ℕ) → (with_set sets s ≡ sets) ⊎ (with_set sets s ≡ sets ++ s ∷ [])
with_set_cases sets s = go (list_any (bytes_eq s) sets)
  where
    go : (b : Bool) → ((if b then sets else sets ++ s ∷ []) ≡ sets) ⊎ ((if b then sets else sets ++ s ∷ []) ≡ sets ++ s ∷ [])
    go true = inl refl
    go false = inr refl

pub has_with_sets : (sets more : List (List ℕ)) (s : List ℕ) → Has (with_sets sets more) s → Has sets s ⊎ Has more s
has_with_sets sets [] s h = inl h
has_with_sets sets (x ∷ more) s h = elim (has_with_sets (with_set sets x) more s h) as (λ _. Has sets s ⊎ Has (x ∷ more) s) [
  | inl k ↦ elim (with_set_cases sets x) as (λ _. Has sets s ⊎ Has (x ∷ more) s) [
    | inl e ↦ inl (rw (← e) k)
    | inr e ↦ elim (Has-append_cases sets (x ∷ []) s (rw (← e) k)) as (λ _. Has sets s ⊎ Has (x ∷ more) s) [
      | inl m ↦ inl m
      | inr m ↦ elim m as (λ _. Has sets s ⊎ Has (x ∷ more) s) [ inl f ↦ inr (inl f) | inr f ↦ absurd f ]
    ]
  ]
  | inr k ↦ inr (inr k)
]

-- ---- sets that are apart

pub apart_more : {X : Type 0} (xs : List X) (x : X) → AreDistinct xs → ¬ Has xs x → AreDistinct (xs ++ x ∷ [])
apart_more [] x d none = (λ h. h, tt)
apart_more (y ∷ xs) x d none = (
  λ h. elim (Has-append_cases xs (x ∷ []) y h) [ inl k ↦ d.0 k | inr k ↦ elim k [ inl e ↦ none (inl (sym e)) | inr n ↦ n ] ],
  apart_more xs x d.1 (λ h. none (inr h)),
)

with_set_apart : (sets : List (List ℕ)) (s : List ℕ) → AreDistinct sets → AreDistinct (with_set sets s)
with_set_apart sets s d = go (list_any (bytes_eq s) sets) refl
  where
    none : (xs : List (List ℕ)) → list_any (bytes_eq s) xs ≡ false → ¬ Has xs s
    none [] e h = h
    none (x ∷ xs) e (inl same) = let t = ap (bytes_eq s) same ∙ bytes_itself s in let f : bytes_eq s x ≡ false = left (bytes_eq s x) (list_any (bytes_eq s) xs) e in differ (sym f ∙ t)
      where
        left : (a b : Bool) → (a || b) ≡ false → a ≡ false
        left true b e = e
        left false b e = refl

        differ : false ≡ true → ⊥
        differ e = cc
    none (x ∷ xs) e (inr h) = none xs (right (bytes_eq s x) (list_any (bytes_eq s) xs) e) h
      where
        right : (a b : Bool) → (a || b) ≡ false → b ≡ false
        right true b e = absurd (cc)
        right false b e = e

    go : (b : Bool) → list_any (bytes_eq s) sets ≡ b → AreDistinct (if b then sets else sets ++ s ∷ [])
    go true e = d
    go false e = apart_more sets s d (none sets e)

pub with_sets_apart : (sets more : List (List ℕ)) → AreDistinct sets → AreDistinct (with_sets sets more)
with_sets_apart sets [] d = d
with_sets_apart sets (s ∷ more) d = with_sets_apart (with_set sets s) more (with_set_apart sets s d)

-- a set's number is told by the set
pub number_told : (sets : List (List ℕ)) (j k : ℕ) → AreDistinct sets → j < length sets → k < length sets → set_at sets j ≡ set_at sets k → j ≡ k
number_told [] j k d l m e = absurd (omega arith)
number_told (s ∷ sets) zero zero d l m e = refl
number_told (s ∷ sets) zero (suc k) d l m e = absurd (d.0 (subst (Has sets) (sym e) (Has-get_or sets k [] (omega (arith, m)))))
number_told (s ∷ sets) (suc j) zero d l m e = absurd (d.0 (subst (Has sets) e (Has-get_or sets j [] (omega (arith, l)))))
number_told (s ∷ sets) (suc j) (suc k) d l m e = ap suc (number_told sets j k d.1 (omega (arith, l)) (omega (arith, m)) e)

-- ---- longer lists

pub longer_itself : {X : Type 0} (xs : List X) → IsLongerBy xs xs
longer_itself xs = ([], sym (append-nil xs))

pub longer_then : {X : Type 0} (xs ys zs : List X) → IsLongerBy xs ys → IsLongerBy ys zs → IsLongerBy xs zs
longer_then xs ys zs a b = (a.0 ++ b.0, b.1 ∙ (ap (λ us. us ++ b.0) a.1 ∙ append_assoc xs a.0 b.0))

pub with_set_longer : (sets : List (List ℕ)) (s : List ℕ) → IsLongerBy sets (with_set sets s)
with_set_longer sets s = elim (with_set_cases sets s) [
  | inl e ↦ ([], e ∙ sym (append-nil sets))
  | inr e ↦ (s ∷ [], e)
]

pub with_sets_longer : (sets more : List (List ℕ)) → IsLongerBy sets (with_sets sets more)
with_sets_longer sets [] = longer_itself sets
with_sets_longer sets (s ∷ more) = longer_then sets (with_set sets s) (with_sets (with_set sets s) more) (with_set_longer sets s) (with_sets_longer (with_set sets s) more)

-- a set keeps its number
pub set_stays : (sets more : List (List ℕ)) (k : ℕ) → k < length sets → set_at (sets ++ more) k ≡ set_at sets k
set_stays [] more k l = absurd (omega arith)
set_stays (s ∷ sets) more zero l = refl
set_stays (s ∷ sets) more (suc k) l = set_stays sets more k (omega (arith, l))

pub at_place : (sets : List (List ℕ)) (k : ℕ) (s : List ℕ) → slice_get sets k ≡ Some s → (set_at sets k ≡ s) × (k < length sets)
at_place [] k s e = absurd (cc)
at_place (x ∷ sets) zero s e = (let h : x ≡ s = cc in h, omega arith)
at_place (x ∷ sets) (suc k) s e = let r = at_place sets k s e in (r.0, omega (arith, r.1))

pub at_number : (sets : List (List ℕ)) (k : ℕ) → k < length sets → slice_get sets k ≡ Some (set_at sets k)
at_number sets k l = slice_get-get_or sets k [] l
