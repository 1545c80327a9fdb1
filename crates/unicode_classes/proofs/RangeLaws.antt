-- Ranges that are gone through from the first to the last.
use Rattle.std.proofs.Common.{◌≡◌, ℕ, zero, suc, ◌+◌, ◌-◌, ◌<◌, ◌≤◌, min, max, ◌⊎◌, ◌↔◌, List, [], ◌∷◌, length, get_or, drop, subst, inl, inr, arith}
use Rattle.std.specs.List.{AllByRecursion}
use Rattle.std.specs.Char.{IsScalar}
use Rattle.std.proofs.Math.Utf8.{scalar_cases}
use Rattle.std.proofs.lemmas.Bool.{cases_lt}
use Rattle.std.proofs.lemmas.List.{drop_more}
use Rattle.std.proofs.Math.ListN.{drop_of_length-le}
use Rattle.span_core.specs.Intervals.{IsWithin, Covers, AreApart}
use Rattle.span_core.specs.IntervalSteps.{StartUpTo}
use Rattle.span_core.proofs.IntervalLaws.{covers_from, rising_at, starts_up}
use Rattle.unicode_classes.specs.Texts.{AreCharacters, IsPartOf}

abbrev pub Ranges : Type 0
Ranges = List (ℕ × ℕ)

pub scalar_below : (c : ℕ) → IsScalar c → c < 1114112
scalar_below c h = elim (scalar_cases c h) [ inl l ↦ omega arith | inr r ↦ r.1 ]

-- what is covered lies past the start of the first range
pub covers_past : (p : ℕ × ℕ) (rest : Ranges) (q : ℕ) → AreApart (p ∷ rest) → Covers (p ∷ rest) q → p.0 ≤ q
covers_past p rest q h (inl w) = w.0
covers_past p [] q h (inr c) = absurd c
covers_past p (r ∷ rest) q h (inr c) = (let l : r.0 ≤ q = covers_past r rest q h.2 c in omega (arith, h.0, h.1.0))

pub covers_start : (p : ℕ × ℕ) (rest : Ranges) → AreApart (p ∷ rest) → Covers (p ∷ rest) p.0
covers_start p rest h = inl (omega arith, h.0)

-- what is covered behind the first range lies past its end, with a number between
pub past_first : (p : ℕ × ℕ) (rest : Ranges) (q : ℕ) → AreApart (p ∷ rest) → Covers rest q → p.1 + 1 < q
past_first p [] q h c = absurd c
past_first p (r ∷ rest) q h c = (let l = covers_past r rest q h.2 c in omega (arith, h.1.0, l))

-- each range starts past what all numbers are past
pub starts_past : (rs : Ranges) (low : ℕ) → AreApart rs → ((q : ℕ) → Covers rs q → low < q) → AllByRecursion (λ next. low < next.0) rs
starts_past [] low h all = tt
starts_past (r ∷ rs) low h all = (all r.0 (inl (omega arith, h.0)), starts_past rs low h.2 (λ q c. all q (inr c)))

pub apart_drop : (ranges : Ranges) (k : ℕ) → AreApart ranges → AreApart (drop k ranges)
apart_drop ranges zero h = h
apart_drop [] (suc k) h = h
apart_drop (p ∷ rest) (suc k) h = apart_drop rest k h.2

pub next_start : (ranges : Ranges) (k : ℕ) → AreApart ranges → k + 1 < length ranges → (get_or ranges k (0, 0)).1 + 1 < (get_or ranges (k + 1) (0, 0)).0
next_start ranges k h l =
    let one : drop k ranges ≡ get_or ranges k (0, 0) ∷ drop (k + 1) ranges = drop_more ranges k (0, 0) (omega arith) in
    let two : drop (k + 1) ranges ≡ get_or ranges (k + 1) (0, 0) ∷ drop (k + 1 + 1) ranges = drop_more ranges (k + 1) (0, 0) l in
    let a : AreApart (get_or ranges k (0, 0) ∷ (get_or ranges (k + 1) (0, 0) ∷ drop (k + 1 + 1) ranges)) =
    rw two at (subst AreApart one (apart_drop ranges k h)) in a.1.0

pub covers_rest : (ranges : Ranges) (k q : ℕ) → k < length ranges → Covers (drop k ranges) q ↔ (IsWithin (get_or ranges k (0, 0)) q ⊎ Covers (drop (k + 1) ranges) q)
covers_rest ranges k q l = rw (drop_more ranges k (0, 0) l) (λ h. h, λ h. h)

pub none_left : (ranges : Ranges) (k q : ℕ) → length ranges ≤ k → Covers (drop k ranges) q → ⊥
none_left ranges k q l h = rw (drop_of_length-le ranges l) at h

-- a number below the range at a place is in no range from there on
pub past_start : (ranges : Ranges) (k q : ℕ) → AreApart ranges → k < length ranges → Covers (drop k ranges) q → (get_or ranges k (0, 0)).0 ≤ q
past_start ranges k q h l c =
    let e = drop_more ranges k (0, 0) l in
    covers_past (get_or ranges k (0, 0)) (drop (k + 1) ranges) q (subst AreApart e (apart_drop ranges k h)) (rw e at c)

-- the characters below `next` that are in no range are in the set, and the ranges that are left begin at `next` or later
pub record Gaps (ranges set : Ranges) (k next : ℕ) : Type 0 where
  pub bounded : next ≤ 1114112
  pub ahead : k < length ranges → next ≤ (get_or ranges k (0, 0)).0
  pub past : (q : ℕ) → next ≤ q → Covers ranges q → Covers (drop k ranges) q
  pub covered : (q : ℕ) → Covers set q ↔ (IsScalar q × (q < next) × (Covers ranges q → ⊥))
  pub starts : (at : ℕ) → next ≤ at → StartUpTo set at

pub gaps_more : (ranges set new : Ranges) (k next : ℕ) → AreApart ranges → AreCharacters ranges → k < length ranges → Gaps ranges set k next
    → ((q : ℕ) → Covers new q ↔ (Covers set q ⊎ (IsScalar q × (next ≤ q) × (q < (get_or ranges k (0, 0)).0))))
    → ((at : ℕ) → (get_or ranges k (0, 0)).0 ≤ at → StartUpTo new at)
    → Gaps ranges new (k + 1) ((get_or ranges k (0, 0)).1 + 1)
gaps_more ranges set new k next apart are l old added starts =
    let p = get_or ranges k (0, 0) in
    let up : p.0 ≤ p.1 = rising_at ranges k apart l in record {
      bounded = (let last : p.1 < 1114112 = scalar_below p.1 (are p.1 (covers_from ranges k (0, 0) p.1 l (up, omega arith))) in omega arith);
      ahead = λ m. (let n = next_start ranges k apart m in omega arith);
      past = λ q g c. elim ((covers_rest ranges k q l).0 (old.past q (omega (arith, old.ahead l)) c)) [
        | inl w ↦ absurd (omega (arith, w.1))
        | inr rest ↦ rest
      ];
      covered = λ q. (
        λ c. elim ((added q).0 c) [
          | inl o ↦ (let s = (old.covered q).0 o in (s.0, omega (arith, s.1, old.ahead l), s.2))
          | inr a ↦ (a.0, omega (arith, a.2), λ c. (let le = past_start ranges k q apart l (old.past q a.1 c) in omega (arith, a.2)))
        ],
        λ s. elim (cases_lt q next) [
          | inl lt ↦ (added q).1 (inl ((old.covered q).1 (s.0, lt, s.2)))
          | inr ge ↦ elim (cases_lt q p.0) [
            | inl lt ↦ (added q).1 (inr (s.0, ge, lt))
            | inr in_range ↦ absurd (s.2 (covers_from ranges k (0, 0) q l (in_range, omega (arith, s.1))))
          ]
        ],
      );
      starts = λ at g. starts at (omega arith);
    }

-- where nothing lies between `next` and the range, nothing is added
pub gaps_same : (ranges set : Ranges) (k next : ℕ) → AreApart ranges → AreCharacters ranges → k < length ranges → Gaps ranges set k next
    → (get_or ranges k (0, 0)).0 ≤ next → Gaps ranges set (k + 1) ((get_or ranges k (0, 0)).1 + 1)
gaps_same ranges set k next apart are l old le =
    gaps_more ranges set set k next apart are l old (λ q. (λ c. inl c, λ s. elim s [ inl c ↦ c | inr a ↦ absurd (omega (arith, a.1, a.2)) ])) (λ at g. old.starts at (omega (arith, old.ahead l)))

pub gaps_pushed : (ranges set new : Ranges) (k next : ℕ) → AreApart ranges → AreCharacters ranges → k < length ranges → Gaps ranges set k next
    → next < (get_or ranges k (0, 0)).0
    → ((q : ℕ) → Covers new q ↔ (Covers set q ⊎ (IsScalar q × (next ≤ q) × (q ≤ (get_or ranges k (0, 0)).0 - 1))))
    → ((at : ℕ) → next ≤ at → (get_or ranges k (0, 0)).0 - 1 ≤ at → StartUpTo new at)
    → Gaps ranges new (k + 1) ((get_or ranges k (0, 0)).1 + 1)
gaps_pushed ranges set new k next apart are l old lt added starts =
    gaps_more ranges set new k next apart are l old (λ q. (
      λ c. elim ((added q).0 c) [ inl o ↦ inl o | inr a ↦ inr (a.0, a.1, omega (arith, a.2)) ],
      λ s. elim s [ inl o ↦ (added q).1 (inl o) | inr a ↦ (added q).1 (inr (a.0, a.1, omega (arith, a.2))) ],
    )) (λ at g. starts at (omega arith) (omega arith))

-- the last number of a range fits
pub end_below : (ranges : Ranges) (k : ℕ) → AreApart ranges → AreCharacters ranges → k < length ranges → (get_or ranges k (0, 0)).1 < 1114112
end_below ranges k apart are l =
    scalar_below (get_or ranges k (0, 0)).1 (are (get_or ranges k (0, 0)).1 (covers_from ranges k (0, 0) (get_or ranges k (0, 0)).1 l (rising_at ranges k apart l, omega arith)))

-- ---- a part of the ranges

-- the set has what is in the part from the ranges that were gone through
pub record Taken (ranges set : Ranges) (k from end origin : ℕ) : Type 0 where
  pub later : k < length ranges → (at : ℕ) → from ≤ at → (get_or ranges k (0, 0)).0 ≤ at → StartUpTo set (at - origin)
  pub covered : (q : ℕ) → (Covers set q ⊎ IsPartOf (drop k ranges) from end (origin + q)) ↔ IsPartOf ranges from end (origin + q)

pub taken_more : (ranges set new : Ranges) (k from end origin lo hi : ℕ) → AreApart ranges → k < length ranges → from < end → origin ≤ from
    → (get_or ranges k (0, 0)).0 ≤ lo → from ≤ lo → ((get_or ranges k (0, 0)).0 ≡ lo) ⊎ (from ≡ lo)
    → hi ≤ (get_or ranges k (0, 0)).1 → hi < end → ((get_or ranges k (0, 0)).1 ≡ hi) ⊎ (end ≡ hi + 1) → lo ≤ hi
    → Taken ranges set k from end origin
    → ((q : ℕ) → Covers new q ↔ (Covers set q ⊎ ((lo - origin ≤ q) × (q ≤ hi - origin))))
    → StartUpTo new (lo - origin)
    → Taken ranges new (k + 1) from end origin
taken_more ranges set new k from end origin lo hi apart l some org a b is_lo c d is_hi le old added start = record {
  later = λ m at f s. (let n = next_start ranges k apart m in let up = rising_at ranges k apart l in
      let near : lo ≤ at = elim is_lo [ inl e ↦ omega arith | inr e ↦ omega arith ] in starts_up new (lo - origin) (at - origin) (omega arith) start);
  covered = λ q. (
    λ s. elim s [
      | inl n ↦ elim ((added q).0 n) [
        | inl o ↦ (old.covered q).0 (inl o)
        | inr w ↦ (covers_from ranges k (0, 0) (origin + q) l (omega (arith, w.0), omega (arith, w.1)), omega (arith, w.0), omega (arith, w.1))
      ]
      | inr h ↦ (old.covered q).0 (inr ((covers_rest ranges k (origin + q) l).1 (inr h.0), h.1, h.2))
    ],
    λ h. elim ((old.covered q).1 h) [
      | inl o ↦ inl ((added q).1 (inl o))
      | inr r ↦ elim ((covers_rest ranges k (origin + q) l).0 r.0) [
        | inl w ↦ (let low : lo ≤ origin + q = elim is_lo [ inl e ↦ omega (arith, w.0) | inr e ↦ omega (arith, r.1) ] in
            let high : origin + q ≤ hi = elim is_hi [ inl e ↦ omega (arith, w.1) | inr e ↦ omega (arith, r.2) ] in
            inl ((added q).1 (inr (omega arith, omega arith))))
        | inr t ↦ inr (t, r.1, r.2)
      ]
    ],
  );
}

pub taken_same : (ranges set : Ranges) (k from end origin : ℕ) → AreApart ranges → k < length ranges → from < end
    → ((get_or ranges k (0, 0)).1 < from) ⊎ (end ≤ (get_or ranges k (0, 0)).0)
    → Taken ranges set k from end origin → Taken ranges set (k + 1) from end origin
taken_same ranges set k from end origin apart l some out old = record {
  later = λ m at f s. (let n = next_start ranges k apart m in let up = rising_at ranges k apart l in old.later l at f (omega arith));
  covered = λ q. (
    λ s. elim s [
      | inl o ↦ (old.covered q).0 (inl o)
      | inr h ↦ (old.covered q).0 (inr ((covers_rest ranges k (origin + q) l).1 (inr h.0), h.1, h.2))
    ],
    λ h. elim ((old.covered q).1 h) [
      | inl o ↦ inl o
      | inr r ↦ elim ((covers_rest ranges k (origin + q) l).0 r.0) [
        | inl w ↦ absurd (elim out as (λ _. ⊥) [ inl e ↦ omega (arith, w.1, r.1) | inr e ↦ omega (arith, w.0, r.2) ])
        | inr t ↦ inr (t, r.1, r.2)
      ]
    ],
  );
}

pub rising_at_place : (ranges : Ranges) (k : ℕ) → AreApart ranges → k < length ranges → (get_or ranges k (0, 0)).0 ≤ (get_or ranges k (0, 0)).1
rising_at_place ranges k apart l = rising_at ranges k apart l

pub max_is : (a b m : ℕ) → m ≡ max a b → (a ≤ m) × (b ≤ m) × ((a ≡ m) ⊎ (b ≡ m))
max_is a b m e = elim (cases_lt a b) [
  | inl l ↦ (omega arith, omega arith, inr (omega arith))
  | inr l ↦ (omega arith, omega arith, inl (omega arith))
]

pub min_is : (a end m : ℕ) → {n : ℕ} → n < end → m ≡ min a (end - 1) → (m ≤ a) × (m < end) × ((a ≡ m) ⊎ (end ≡ m + 1))
min_is a end m l e = elim (cases_lt a (end - 1)) [
  | inl k ↦ (omega arith, omega arith, inl (omega arith))
  | inr k ↦ (omega arith, omega arith, inr (omega arith))
]

pub outside : (a b from end lo hi : ℕ) → a ≤ b → from < end → (a ≡ lo) ⊎ (from ≡ lo) → (b ≡ hi) ⊎ (end ≡ hi + 1) → hi < lo → (b < from) ⊎ (end ≤ a)
outside a b from end lo hi r s (inl e) (inl f) l = absurd (omega arith)
outside a b from end lo hi r s (inl e) (inr f) l = inr (omega arith)
outside a b from end lo hi r s (inr e) (inl f) l = inl (omega arith)
outside a b from end lo hi r s (inr e) (inr f) l = absurd (omega arith)
