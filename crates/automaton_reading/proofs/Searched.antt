-- A binary search among numbers that ascend.
use Rattle.std.proofs.Common.{◌≡◌, ℕ, zero, suc, ◌<◌, ◌≤◌, Bool, true, false, List, [], ◌∷◌, length, get_or, Result, Ok, Err, inl, inr, refl, sym, subst, arith, ◌∙◌}
use Rattle.std.specs.List.Sorted.{IsBinarySearchResult}
use Rattle.std.specs.Ordering.{nat_cmp}
use Rattle.std.specs.Result.{is_ok, MatchResult}
use Rattle.std.proofs.lemmas.Bool.{cases_lt}
use Rattle.std.proofs.lemmas.List.Sorted.{searched}
use Rattle.span_core.specs.Lists.{Has, IsInOrder}
use Rattle.span_core.proofs.HasLaws.{Has-get_or, Contains-Has}
use Rattle.span_core.proofs.ListLaws.{all_has}
use Rattle.automaton_reading.specs.Reading.{is_among}
use Rattle.automaton_reading.proofs.Determined.{has_among, among_has}

climbs : (xs : List ℕ) → IsInOrder ◌<◌ xs → (i j : ℕ) → i ≤ j → j < length xs → get_or xs i 0 ≤ get_or xs j 0
climbs [] h i j l m = absurd (omega arith)
climbs (x ∷ xs) h zero zero l m = omega arith
climbs (x ∷ xs) h zero (suc j) l m = let k = all_has (λ y. x < y) xs (get_or xs j 0) h.0 (Has-get_or xs j 0 (omega (arith, m))) in omega (arith, k)
climbs (x ∷ xs) h (suc i) zero l m = absurd (omega arith)
climbs (x ∷ xs) h (suc i) (suc j) l m = climbs xs h.1 i j (omega (arith, l)) (omega (arith, m))

-- a member that is found, or that is none
pub searched_at : (xs : List ℕ) (x : ℕ) (r : Result ℕ ℕ) → IsInOrder ◌<◌ xs → IsBinarySearchResult (λ y. nat_cmp y x) xs r →
    MatchResult r (λ i. (i < length xs) × (get_or xs i 0 ≡ x)) (λ _. Has xs x → ⊥)
searched_at xs x r up found = by r (searched xs x r found (λ i j. climbs xs up i j))
  where
    by : (s : Result ℕ ℕ) → MatchResult s (λ i. (i < length xs) × (get_or xs i 0 ≡ x)) (λ i. (i ≤ length xs) × ((k : ℕ) → k < i → get_or xs k 0 < x) ×
        ((k : ℕ) → i ≤ k → k < length xs → x < get_or xs k 0)) →
        MatchResult s (λ i. (i < length xs) × (get_or xs i 0 ≡ x)) (λ _. Has xs x → ⊥)
    by (Ok i) h = h
    by (Err i) h = λ m.
        let p = Contains-Has xs x m in
        elim (cases_lt p.0 i) [
          | inl l ↦ let k = h.1 p.0 l in omega (arith, k, at p)
          | inr l ↦ let k = h.2 p.0 l p.1 in omega (arith, k, at p)
        ]
      where
        at : (p : (k : ℕ) × (k < length xs) × (get_or xs k x ≡ x)) → get_or xs p.0 0 ≡ x
        at p = same xs p.0 p.1 ∙ p.2
          where
            same : (ys : List ℕ) (k : ℕ) → k < length ys → get_or ys k 0 ≡ get_or ys k x
            same [] k l = absurd (omega arith)
            same (y ∷ ys) zero l = refl
            same (y ∷ ys) (suc k) l = same ys k (omega (arith, l))

pub searched_is : (xs : List ℕ) (x : ℕ) (r : Result ℕ ℕ) → IsInOrder ◌<◌ xs → IsBinarySearchResult (λ y. nat_cmp y x) xs r → is_ok r ≡ is_among xs x
searched_is xs x r up found = by r (searched_at xs x r up found)
  where
    absent : (b : Bool) → is_among xs x ≡ b → (Has xs x → ⊥) → false ≡ b
    absent true e there = absurd (there (among_has xs x e))
    absent false e there = refl

    by : (s : Result ℕ ℕ) → MatchResult s (λ i. (i < length xs) × (get_or xs i 0 ≡ x)) (λ _. Has xs x → ⊥) → is_ok s ≡ is_among xs x
    by (Ok i) h = sym (has_among xs x (subst (Has xs) h.1 (Has-get_or xs i 0 h.0)))
    by (Err i) h = absent (is_among xs x) refl h
