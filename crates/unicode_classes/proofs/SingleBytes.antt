-- The bytes of numbers in ranges, one for each number.
use Rattle.std.proofs.Common.{◌≡◌, ℕ, ◌+◌, ◌-◌, ◌<◌, ◌≤◌, ◌⊎◌, ◌↔◌, length, get_or, drop, inl, inr, arith}
use Rattle.std.specs.Ordering.{nat_cmp}
use Rattle.std.specs.FinSet.{FinSet, empty, union}
use Rattle.span_core.specs.ByteSets.{bytes_between}
use Rattle.span_core.specs.Intervals.{Covers, AreApart}
use Rattle.span_core.proofs.IntervalLaws.{covers_from, rising_at}
use Rattle.unicode_classes.specs.ClassTree.{IsByteIn}
use Rattle.unicode_classes.proofs.RangeLaws.{Ranges, covers_rest, none_left}
use Rattle.unicode_classes.proofs.ByteLaws.{in_none, in_either, in_between}

-- the byte is the base and a number in the ranges
abbrev pub IsShifted : ℕ → Ranges → ℕ → Type 0
IsShifted base ranges b = (v : ℕ) × Covers ranges v × (base + v ≡ b)

-- the set has the bytes of the ranges that were gone through
abbrev pub AreShifted : ℕ → Ranges → FinSet nat_cmp → ℕ → Type 0
AreShifted base ranges bytes k = (b : ℕ) → (IsByteIn bytes b ⊎ IsShifted base (drop k ranges) b) ↔ IsShifted base ranges b

pub shifted_first : (base : ℕ) (ranges : Ranges) → AreShifted base ranges empty 0
shifted_first base ranges b = (λ s. elim s [ inl h ↦ absurd (in_none b h) | inr r ↦ r ], λ r. inr r)

pub shifted_more : (base : ℕ) (ranges : Ranges) (bytes new : FinSet nat_cmp) (k lo hi : ℕ) → k < length ranges → base + (get_or ranges k (0, 0)).0 ≡ lo → base + (get_or ranges k (0, 0)).1 ≡ hi
    → new ≡ union bytes (bytes_between lo hi) → AreShifted base ranges bytes k → AreShifted base ranges new (k + 1)
shifted_more base ranges bytes new k lo hi l el eh e old b =
    let change : IsByteIn new b ↔ (IsByteIn bytes b ⊎ IsByteIn (bytes_between lo hi) b) =
    rw e (in_either bytes (bytes_between lo hi) b) in (
      λ s. elim s [
        | inl h ↦ elim (change.0 h) [
          | inl x ↦ (old b).0 (inl x)
          | inr y ↦ (let w = (in_between lo hi b).0 y in
              (b - base, covers_from ranges k (0, 0) (b - base) l (omega (arith, el, w.0), omega (arith, eh, w.1)), omega (arith, el, w.0)))
        ]
        | inr r ↦ (old b).0 (inr (r.0, (covers_rest ranges k r.0 l).1 (inr r.1), r.2))
      ],
      λ r. elim ((old b).1 r) [
        | inl x ↦ inl (change.1 (inl x))
        | inr t ↦ elim ((covers_rest ranges k t.0 l).0 t.1) [
          | inl w ↦ inl (change.1 (inr ((in_between lo hi b).1 (omega (arith, el, t.2, w.0), omega (arith, eh, t.2, w.1)))))
          | inr c ↦ inr (t.0, c, t.2)
        ]
      ],
    )

pub shifted_end : (base : ℕ) (ranges : Ranges) (bytes : FinSet nat_cmp) (k : ℕ) → length ranges ≤ k → AreShifted base ranges bytes k → (b : ℕ) → IsByteIn bytes b ↔ IsShifted base ranges b
shifted_end base ranges bytes k l old b = (
  λ h. (old b).0 (inl h),
  λ r. elim ((old b).1 r) [ inl h ↦ h | inr t ↦ absurd (none_left ranges k t.0 l t.1) ],
)

-- a number of the range at a place has a byte
pub byte_fits : (base : ℕ) (ranges : Ranges) (k : ℕ) → AreApart ranges → ((v : ℕ) → Covers ranges v → base + v < 256) → k < length ranges
    → ((get_or ranges k (0, 0)).0 ≤ (get_or ranges k (0, 0)).1) × (base + (get_or ranges k (0, 0)).1 < 256)
byte_fits base ranges k apart fits l =
    let up = rising_at ranges k apart l in (up, fits (get_or ranges k (0, 0)).1 (covers_from ranges k (0, 0) (get_or ranges k (0, 0)).1 l (up, omega arith)))
