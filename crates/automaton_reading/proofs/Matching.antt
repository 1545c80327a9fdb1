-- Lists whose elements are matched one to one, and sums over them.
use Rattle.std.proofs.Common.{◌≡◌, ℕ, ◌+◌, ◌≤◌, ◌⊎◌, Bool, true, false, List, [], ◌∷◌, length, map, inl, inr, refl, sym, ap, subst, arith, ◌∙◌}
use Rattle.std.specs.Prelude.{if◌then◌else◌, ◌||◌}
use Rattle.std.specs.List.{list_any, sum_by}
use Rattle.std.proofs.lemmas.List.Sums.{sum_by-append}
use Rattle.span_core.specs.Lists.{Has, AreDistinct}
use Rattle.automaton_reading.specs.Reading.{once}

pub cons_sum : {X : Type 0} (v : X → ℕ) (x : X) (xs : List X) → sum_by v (x ∷ xs) ≡ v x + sum_by v xs
cons_sum v x xs = let e = sum_by-append v (x ∷ []) xs in omega (arith, e)

-- a list without one place of an element
pub record Without {Y : Type 0} (y : Y) (ys rest : List Y) : Type 0 where
  pub cases : (z : Y) → Has ys z → (y ≡ z) ⊎ Has rest z
  pub sums : (v : Y → ℕ) → sum_by v ys ≡ v y + sum_by v rest

without : {Y : Type 0} (y : Y) (ys : List Y) → Has ys y → (rest : List Y) × Without y ys rest
without y [] h = absurd h
without y (z ∷ ys) (inl e) = (
  ys,
  record {
    cases = λ x g. elim g as (λ _. (y ≡ x) ⊎ Has ys x) [ inl i ↦ inl (sym e ∙ i) | inr j ↦ inr j ];
    sums = λ v. cons_sum v z ys ∙ ap (λ x. v x + sum_by v ys) e;
  },
)
without y (z ∷ ys) (inr h) =
    let r = without y ys h in (
      z ∷ r.0,
      record {
        cases = λ x g. elim g as (λ _. (y ≡ x) ⊎ Has (z ∷ r.0) x) [ inl i ↦ inr (inl i) | inr j ↦ elim (r.1.cases x j) as (λ _. (y ≡ x) ⊎ Has (z ∷ r.0) x) [ inl a ↦ inl a | inr b ↦ inr (inr b) ] ];
        sums = λ v. let e = r.1.sums v in omega (arith, e, cons_sum v z ys, cons_sum v z r.0);
      },
    )

-- where each element of xs has one of ys of its own that counts no less, the sum over xs is no more
pub match_sum : {X Y : Type 0} (R : X → Y → Type 0) (w : X → ℕ) (v : Y → ℕ) (xs : List X) (ys : List Y) → AreDistinct xs →
    ((x : X) → Has xs x → (y : Y) × Has ys y × R x y × (w x ≤ v y)) → ((x z : X) (y : Y) → R x y → R z y → x ≡ z) →
    sum_by w xs ≤ sum_by v ys
match_sum R w v [] ys distinct total one = omega arith
match_sum {X} {Y} R w v (x ∷ xs) ys distinct total one =
    let t = total x (inl refl) in
    let r = without t.0 ys t.1 in
    let later = match_sum R w v xs r.0 distinct.1 (λ z h. other z h t.0 t.2 r.0 r.1.cases (total z (inr h))) one in
    omega (arith, later, t.3, r.1.sums v, cons_sum w x xs)
  where
    other : (z : X) → Has xs z → (y : Y) → R x y → (rest : List Y) → ((u : Y) → Has ys u → (y ≡ u) ⊎ Has rest u) →
        (u : Y) × Has ys u × R z u × (w z ≤ v u) → (u : Y) × Has rest u × R z u × (w z ≤ v u)
    other z h y rel rest cases t =
        elim (cases t.0 t.1) as (λ _. (u : Y) × Has rest u × R z u × (w z ≤ v u)) [
          | inl e ↦ absurd (distinct.0 (subst (Has xs) (sym (one x z t.0 (subst (R x) e rel) t.2)) h))
          | inr k ↦ (t.0, k, t.2, t.3)
        ]

-- each element once
module _ {X : Type 0} (same : X → X → Bool) (same_is : (x y : X) → same x y ≡ true → x ≡ y) (is_same : (x : X) → same x x ≡ true) where
  any_has : (xs : List X) (x : X) → list_any (same x) xs ≡ true → Has xs x
  any_has [] x e = absurd (cc)
  any_has (y ∷ xs) x e = by (same x y) refl (any_has xs x) e
    where
      by : (b : Bool) → same x y ≡ b → (list_any (same x) xs ≡ true → Has xs x) → (b || list_any (same x) xs) ≡ true → Has (y ∷ xs) x
      by true at rest e = inl (sym (same_is x y at))
      by false at rest e = inr (rest e)

  has_any : (xs : List X) (x : X) → Has xs x → list_any (same x) xs ≡ true
  has_any [] x h = absurd h
  has_any (y ∷ xs) x (inl e) = ap (λ z. same x z || list_any (same x) xs) e ∙ ap (λ b. b || list_any (same x) xs) (is_same x)
  has_any (y ∷ xs) x (inr h) = ap (λ b. same x y || b) (has_any xs x h) ∙ or_true (same x y)
    where
      or_true : (b : Bool) → (b || true) ≡ true
      or_true true = refl
      or_true false = refl

  pub once_has : (xs : List X) (x : X) → Has xs x → Has (once same xs) x
  once_has [] x h = absurd h
  once_has (y ∷ xs) x h = by (list_any (same y) (once same xs)) refl (once_has xs x) h
    where
      by : (b : Bool) → list_any (same y) (once same xs) ≡ b → (Has xs x → Has (once same xs) x) → Has (y ∷ xs) x → Has (if b then once same xs else y ∷ once same xs) x
      by true at rest (inl e) = subst (Has (once same xs)) e (any_has (once same xs) y at)
      by true at rest (inr h) = rest h
      by false at rest (inl e) = inl e
      by false at rest (inr h) = inr (rest h)

  pub has_once : (xs : List X) (x : X) → Has (once same xs) x → Has xs x
  has_once [] x h = absurd h
  has_once (y ∷ xs) x h = by (list_any (same y) (once same xs)) (has_once xs x) h
    where
      by : (b : Bool) → (Has (once same xs) x → Has xs x) → Has (if b then once same xs else y ∷ once same xs) x → Has (y ∷ xs) x
      by true rest h = inr (rest h)
      by false rest (inl e) = inl e
      by false rest (inr h) = inr (rest h)

  pub once_distinct : (xs : List X) → AreDistinct (once same xs)
  once_distinct [] = tt
  once_distinct (y ∷ xs) = by (list_any (same y) (once same xs)) refl (once_distinct xs)
    where
      by : (b : Bool) → list_any (same y) (once same xs) ≡ b → AreDistinct (once same xs) → AreDistinct (if b then once same xs else y ∷ once same xs)
      by true at rest = rest
      by false at rest = (λ h. false_true (sym at ∙ has_any (once same xs) y h), rest)
        where
          false_true : false ≡ true → ⊥
          false_true f = cc

pub length_sum : {X : Type 0} (xs : List X) → length xs ≡ sum_by (λ x. 1) xs
length_sum [] = refl
length_sum {X} (x ∷ xs) = let e = length_sum xs in let one : X → ℕ = λ x. 1 in omega (arith, e, cons_sum one x xs)

pub map_distinct : {X Y : Type 0} (g : X → Y) (xs : List X) → ((x z : X) → g x ≡ g z → x ≡ z) → AreDistinct xs → AreDistinct (map g xs)
map_distinct g [] one d = tt
map_distinct {X} {Y} g (x ∷ xs) one d = (λ h. d.0 (back xs h), map_distinct g xs one d.1)
  where
    back : (zs : List X) → Has (map g zs) (g x) → Has zs x
    back [] h = absurd h
    back (z ∷ zs) (inl e) = inl (one z x e)
    back (z ∷ zs) (inr h) = inr (back zs h)
