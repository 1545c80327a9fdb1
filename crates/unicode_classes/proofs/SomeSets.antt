-- There are ranges of the characters that are so, where of each it can be told whether it is.
use Rattle.std.proofs.Common.{◌≡◌, ℕ, zero, suc, ◌+◌, ◌<◌, ◌≤◌, ◌⊎◌, ◌↔◌, Bool, true, false, List, [], ◌∷◌, refl, sym, subst, inl, inr, arith}
use Rattle.std.specs.Prelude.{IsTrue}
use Rattle.std.specs.Char.{IsScalar}
use Rattle.std.proofs.lemmas.Bool.{cases_eq, true≢false}
use Rattle.span_core.specs.Intervals.{Covers, AreApart}
use Rattle.unicode_classes.specs.Properties.{IsPropertyName, IsProperty}
use Rattle.unicode_classes.proofs.RangeLaws.{Ranges, covers_past, starts_past, scalar_below}

-- it can be told whether a test is passed
pub test_told : (b : Bool) → IsTrue b ⊎ ¬ IsTrue b
test_told true = inl refl
test_told false = inr (λ e. true≢false (sym e))

-- it can be told whether a number is a character's
pub scalar_told : (c : ℕ) → IsScalar c ⊎ ¬ IsScalar c
scalar_told c = test_told _

-- ranges with one number more, before all others
with_first : (s : ℕ) (r : Ranges) → AreApart r → ((q : ℕ) → Covers r q → s < q) → (new : Ranges) × AreApart new × ((q : ℕ) → Covers new q ↔ ((q ≡ s) ⊎ Covers r q))
with_first s [] apart past = (
  (s, s) ∷ [],
  (omega arith, tt, tt),
  λ q. (
    λ h. elim h [ inl w ↦ inl (omega (arith, w.0, w.1)) | inr none ↦ absurd none ],
    λ h. elim h [ inl e ↦ inl (omega arith, omega arith) | inr none ↦ absurd none ],
  ),
)
with_first s (p ∷ ps) apart past = elim (cases_eq p.0 (s + 1)) [
  | inl e ↦ (
    (s, p.1) ∷ ps,
    (omega (arith, apart.0), apart.1, apart.2),
    λ q. (
      λ h. elim h [
        | inl w ↦ elim (cases_eq q s) [ inl f ↦ inl f | inr n ↦ inr (inl (omega (arith, w.0), w.1)) ]
        | inr c ↦ inr (inr c)
      ],
      λ h. elim h [
        | inl f ↦ inl (omega arith, omega (arith, apart.0))
        | inr c ↦ elim c [ inl w ↦ inl (omega (arith, w.0), w.1) | inr k ↦ inr k ]
      ],
    ),
  )
  | inr n ↦ (let first : s < p.0 = past p.0 (inl (omega arith, apart.0)) in (
    (s, s) ∷ (p ∷ ps),
    (omega arith, starts_past (p ∷ ps) (s + 1) apart (λ q c. (let l = covers_past p ps q apart c in omega (arith, n))), apart),
    λ q. (
      λ h. elim h [ inl w ↦ inl (omega (arith, w.0, w.1)) | inr c ↦ inr c ],
      λ h. elim h [ inl e ↦ inl (omega arith, omega arith) | inr c ↦ inr c ],
    ),
  ))
]

module _ (P : ℕ → Type 0) (told : (c : ℕ) → P c ⊎ ¬ P c) where
  -- of the numbers from a first one on, as many as are said
  some_from : (k start : ℕ) → (r : Ranges) × AreApart r × ((q : ℕ) → Covers r q ↔ (P q × (start ≤ q) × (q < start + k)))
  some_from zero start = ([], tt, λ q. (λ h. absurd h, λ h. absurd (omega (arith, h.1, h.2))))
  some_from (suc k) start =
      let old = some_from k (start + 1) in
      elim (told start) [
        | inr n ↦ (
          old.0,
          old.1,
          λ q. (
            λ h. (let r = (old.2 q).0 h in (r.0, omega (arith, r.1), omega (arith, r.2))),
            λ h. elim (cases_eq q start) [
              | inl e ↦ absurd (n (subst P e h.0))
              | inr other ↦ (old.2 q).1 (h.0, omega (arith, h.1, other), omega (arith, h.2))
            ],
          ),
        )
        | inl is ↦ (let new = with_first start old.0 old.1 (λ q h. (let r = (old.2 q).0 h in omega (arith, r.1))) in (
          new.0,
          new.1,
          λ q. (
            λ h. elim ((new.2 q).0 h) [
              | inl e ↦ (subst P (sym e) is, omega arith, omega arith)
              | inr c ↦ (let r = (old.2 q).0 c in (r.0, omega (arith, r.1), omega (arith, r.2)))
            ],
            λ h. elim (cases_eq q start) [
              | inl e ↦ (new.2 q).1 (inl e)
              | inr other ↦ (new.2 q).1 (inr ((old.2 q).1 (h.0, omega (arith, h.1, other), omega (arith, h.2))))
            ],
          ),
        ))
      ]

  some_below : (n : ℕ) → (r : Ranges) × AreApart r × ((q : ℕ) → Covers r q ↔ (P q × (q < n)))
  some_below n = (let s = some_from n 0 in (
    s.0,
    s.1,
    λ q. (
      λ h. (let r = (s.2 q).0 h in (r.0, omega (arith, r.2))),
      λ h. (s.2 q).1 (h.0, omega arith, omega (arith, h.1)),
    ),
  ))

-- the characters that are so
pub some_set : (P : ℕ → Type 0) → ((c : ℕ) → P c ⊎ ¬ P c) → (r : Ranges) × AreApart r × ((c : ℕ) → Covers r c ↔ (IsScalar c × P c))
some_set P told =
    let both : (c : ℕ) → (IsScalar c × P c) ⊎ ¬ (IsScalar c × P c) = λ c. elim (scalar_told c) [
      | inr n ↦ inr (λ h. n h.0)
      | inl s ↦ elim (told c) [ inl h ↦ inl (s, h) | inr n ↦ inr (λ h. n h.1) ]
    ] in
    let s = some_below (λ c. IsScalar c × P c) both 1114112 in
    (s.0, s.1, λ c. (λ h. ((s.2 c).0 h).0, λ h. (s.2 c).1 (h, scalar_below c h.0)))

pub some_ranges : (test : ℕ → Bool) → (r : Ranges) × AreApart r × ((c : ℕ) → Covers r c ↔ (IsScalar c × IsTrue (test c)))
some_ranges test = some_set (λ c. IsTrue (test c)) (λ c. test_told (test c))

pub some_property : (name : List ℕ) → IsPropertyName name → (r : Ranges) × IsProperty name r
some_property name is = (let s = some_ranges is.0 in (s.0, (is.0, is.1, s.1, s.2)))
