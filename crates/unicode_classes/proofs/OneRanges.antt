-- Ranges that are apart and have the same numbers are equal.
use Rattle.std.proofs.Common.{◌≡◌, ℕ, ◌+◌, ◌≤◌, ◌↔◌, [], ◌∷◌, refl, sym, inl, inr, arith}
use Rattle.std.proofs.lemmas.Bool.{cases_lt}
use Rattle.span_core.specs.Intervals.{Covers, AreApart}
use Rattle.unicode_classes.proofs.RangeLaws.{covers_past, covers_start, past_first, Ranges}

-- the first range of two equal sets begins and ends at the same number
begins_low : (p q : ℕ × ℕ) (ps qs : Ranges) → AreApart (p ∷ ps) → AreApart (q ∷ qs) → ((c : ℕ) → Covers (p ∷ ps) c → Covers (q ∷ qs) c) → q.0 ≤ p.0
begins_low p q ps qs h k same = covers_past q qs p.0 k (same p.0 (covers_start p ps h))

ends_low : (p q : ℕ × ℕ) (ps qs : Ranges) → AreApart (p ∷ ps) → AreApart (q ∷ qs) → p.0 ≡ q.0 → ((c : ℕ) → Covers (q ∷ qs) c → Covers (p ∷ ps) c) → q.1 ≤ p.1
ends_low p q ps qs h k e same = elim (cases_lt p.1 q.1) [
  | inl l ↦ elim (same (p.1 + 1) (inl (omega (arith, h.0), omega arith))) [
    | inl w ↦ absurd (omega (arith, w.1))
    | inr c ↦ absurd (let l = past_first p ps (p.1 + 1) h c in omega arith)
  ]
  | inr l ↦ l
]

same_rest : (p : ℕ × ℕ) (ps qs : Ranges) → AreApart (p ∷ ps) → ((c : ℕ) → Covers (p ∷ ps) c → Covers (p ∷ qs) c) → (c : ℕ) → Covers ps c → Covers qs c
same_rest p ps qs h same c covers = elim (same c (inr covers)) [
  | inl w ↦ absurd (let l = past_first p ps c h covers in omega (arith, w.1))
  | inr r ↦ r
]

pub one_ranges : (r s : Ranges) → AreApart r → AreApart s → ((c : ℕ) → Covers r c ↔ Covers s c) → r ≡ s
one_ranges [] [] h k same = refl
one_ranges [] (q ∷ qs) h k same = absurd ((same q.0).1 (covers_start q qs k))
one_ranges (p ∷ ps) [] h k same = absurd ((same p.0).0 (covers_start p ps h))
one_ranges (p ∷ ps) (q ∷ qs) h k same =
    let low : p.0 ≡ q.0 = (let a = begins_low p q ps qs h k (λ c. (same c).0) in let b = begins_low q p qs ps k h (λ c. (same c).1) in omega arith) in
    let high : p.1 ≡ q.1 = (let a = ends_low p q ps qs h k low (λ c. (same c).1) in let b = ends_low q p qs ps k h (sym low) (λ c. (same c).0) in omega arith) in
    let first : p ≡ q = λ i. (low i, high i) in
    let k' : AreApart (p ∷ qs) = rw first k in
    let same' : (c : ℕ) → Covers (p ∷ ps) c ↔ Covers (p ∷ qs) c = rw (← first) at same in
    let rest : ps ≡ qs = one_ranges ps qs h.2 k.2 (λ c. (same_rest p ps qs h (λ d. (same' d).0) c, same_rest p qs ps k' (λ d. (same' d).1) c)) in
    λ i. first i ∷ rest i
