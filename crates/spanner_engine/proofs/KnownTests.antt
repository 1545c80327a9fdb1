-- Of tests of which it is only kept that they are known, that they are.
use Rattle.std.proofs.Common.{◌≡◌, ◌⊎◌, ℕ, zero, suc, Bool, true, false, List, [], ◌∷◌, Some, inl, inr, refl, ap}
use Rattle.std.specs.Str.{bytes_eq}
use Rattle.std.proofs.lemmas.Grind.{not_there}
use Rattle.std.proofs.lemmas.Slice.Eq.{bytes_eq-Decides}
use Rattle.span_tests.specs.Listed.{IsNamed, IsNamedAt}
use Rattle.spanner_model.specs.declared.tested.Asked.{Asked}
use Rattle.spanner_model.specs.Passing.{AreKnown, Known}

-- a test has the name, or none has
named_or_not : (tests : List (List ℕ × ℕ)) (name : List ℕ) → IsNamed tests name ⊎ (¬ IsNamed tests name)
named_or_not [] name = inr (λ h. let e = h.1.1 in absurd (cc))
named_or_not (t ∷ tests) name = by (bytes_eq t.0 name) refl (named_or_not tests name)
  where
    first : (k : ℕ) → bytes_eq t.0 name ≡ false → IsNamedAt (t ∷ tests) name k → IsNamed tests name
    first zero other here =
        let same : t ≡ (name, here.0) = let e = here.1 in cc in
        let is : bytes_eq t.0 name ≡ true = (bytes_eq-Decides t.0 name).1 (ap (λ (x : List ℕ × ℕ). x.0) same) in
        absurd (cc)
    first (suc k) other there = (k, there)

    by : (b : Bool) → bytes_eq t.0 name ≡ b → IsNamed tests name ⊎ (¬ IsNamed tests name) → IsNamed (t ∷ tests) name ⊎ (¬ IsNamed (t ∷ tests) name)
    by true is later = inl (0, (t.1, ap (λ (n : List ℕ). Some (n, t.1)) ((bytes_eq-Decides t.0 name).0 is)))
    by false other (inl there) = inl (suc there.0, there.1)
    by false other (inr none) = inr (λ h. none (first h.0 other h.1))

-- so tests of which it is kept that they are known are known
pub known_kept : (k : Known) (asked : List Asked) → ∥ AreKnown k asked ∥₁ → AreKnown k asked
known_kept k asked kept a has = elim (named_or_not k.tests a.test) [
  | inl named ↦ named
  | inr none ↦ absurd (not_there kept (λ all. none (all a has)))
]
