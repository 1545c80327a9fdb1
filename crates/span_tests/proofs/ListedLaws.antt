-- Where a name stands in a list of tests.
use Rattle.std.proofs.Common.{rules, arith, ◌≡◌, ◌<◌, ◌≤◌, ◌+◌, ℕ, List, [], ◌∷◌, length, get_or, Some, sym, ap, subst, ◌∙◌, refl, ◌⊎◌, inl, inr}
use Rattle.std.proofs.lemmas.Option.{slice_get_read, slice_get_within, get_or_from_slice_get}
use Rattle.std.proofs.Common.{zero, suc, Bool, true, false}
use Rattle.std.specs.Prelude.{if◌then◌else◌}
use Rattle.std.specs.Str.{bytes_eq}
use Rattle.std.proofs.lemmas.Slice.Eq.{bytes_eq-Decides}
use Rattle.span_tests.specs.Listed.{IsNamedAt, IsNamed, number_at, number_named}

-- the test that was read has the name
pub named_here : (tests : List (List ℕ × ℕ)) (k : ℕ) (test : List ℕ × ℕ) (name : List ℕ) → k < length tests → test ≡ get_or tests k test → test.0 ≡ name → IsNamedAt tests name k
named_here tests k test name within is named =
    (test.1, slice_get_read tests (length tests) k test refl within is ∙ ap (λ (n : List ℕ). Some (n, test.1)) named)

-- the test that was read is the one that is there
pub name_here : (tests : List (List ℕ × ℕ)) (k : ℕ) (test : List ℕ × ℕ) (name : List ℕ) → test ≡ get_or tests k test → IsNamedAt tests name k → test.0 ≡ name
name_here tests k test name is at = ap (λ (t : List ℕ × ℕ). t.0) (is ∙ get_or_from_slice_get tests k (name, at.0) test at.1)

-- a place below the next one is below this one, or is this one
below_next : (i k : ℕ) → i < k + 1 → (i < k) ⊎ (i ≡ k)
below_next i k small = search (arith, rules)

-- one more test that has not the name
pub none_at_next : (tests : List (List ℕ × ℕ)) (k : ℕ) (test : List ℕ × ℕ) (name : List ℕ) → test ≡ get_or tests k test → (test.0 ≡ name → ⊥) →
    ((i : ℕ) → i < k → ¬ IsNamedAt tests name i) → (i : ℕ) → i < k + 1 → ¬ IsNamedAt tests name i
none_at_next tests k test name is other none i small at =
    elim (below_next i k small) [
      | inl below ↦ none i below at
      | inr here ↦ other (name_here tests k test name is (subst (λ (j : ℕ). IsNamedAt tests name j) here at))
    ]

-- none at any place is none
pub none_named : (tests : List (List ℕ × ℕ)) (k : ℕ) (name : List ℕ) → length tests ≤ k → ((i : ℕ) → i < k → ¬ IsNamedAt tests name i) → ¬ IsNamed tests name
none_named tests k name all none there = none there.0 (omega (arith, slice_get_within tests there.0 (name, there.1.0) there.1.1, all)) there.1

-- the number at the first place of a name
pub first_number : (tests : List (List ℕ × ℕ)) (name : List ℕ) (k : ℕ) → IsNamedAt tests name k → ((i : ℕ) → i < k → ¬ IsNamedAt tests name i) → number_at tests k ≡ number_named tests name
first_number [] name k here before = let e = here.1 in absurd (cc)
first_number (t ∷ tests) name zero here before =
    let same : t ≡ (name, here.0) = let e = here.1 in cc in
    ap (λ (b : Bool). if b then t.1 else number_named tests name) (sym ((bytes_eq-Decides t.0 name).1 (ap (λ (x : List ℕ × ℕ). x.0) same)))
first_number (t ∷ tests) name (suc k) here before = by (bytes_eq t.0 name) refl (first_number tests name k here (λ i small. before (suc i) (omega (arith, small))))
  where
    by : (b : Bool) → bytes_eq t.0 name ≡ b → number_at tests k ≡ number_named tests name → number_at (t ∷ tests) (suc k) ≡ (if b then t.1 else number_named tests name)
    by true e later =
        let named : t.0 ≡ name = (bytes_eq-Decides t.0 name).0 e in
        absurd (before 0 (omega arith) (t.1, ap (λ (n : List ℕ). Some (n, t.1)) named))
    by false e later = later
