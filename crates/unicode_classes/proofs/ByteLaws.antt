-- Bytes in sets that grow.
use Rattle.std.proofs.Common.{◌≡◌, ℕ, ◌≤◌, ◌⊎◌, ◌↔◌, Bool, true, false, ◌||◌, refl, sym, ap, inl, inr, ◌∙◌}
use Rattle.std.specs.Prelude.{nat_le, ◌==◌}
use Rattle.std.specs.Ordering.{nat_cmp, eq_by_cmp}
use Rattle.std.specs.Cmp.{nat_cmp_total, unsigned_tied}
use Rattle.std.specs.FinSet.{FinSet, contains, empty, insert, union, contains-union, contains-insert, contains-empty}
use Rattle.std.proofs.lemmas.Bool.{or_cases, or_left, or_right, and_parts, and_from, leb-true, le-leb, eqb-true, eq-eqb, true≢false}
use Rattle.span_core.specs.ByteSets.{bytes_between}
use Rattle.span_core.specs.ByteWordLaws.{contains-bytes_between}
use Rattle.span_core.proofs.ByteSetLaws.{same_bytes}
use Rattle.unicode_classes.specs.ClassTree.{IsByteIn}

pub in_none : (b : ℕ) → IsByteIn empty b → ⊥
in_none b h = true≢false (sym h ∙ contains-empty nat_cmp b)

pub in_either : (s t : FinSet nat_cmp) (b : ℕ) → IsByteIn (union s t) b ↔ (IsByteIn s b ⊎ IsByteIn t b)
in_either s t b =
    let e = contains-union nat_cmp_total s t b in (
      λ h. or_cases (contains s b) (contains t b) (sym e ∙ h),
      λ h. e ∙ elim h as (λ _. (contains s b || contains t b) ≡ true) [ inl x ↦ or_left (contains s b) (contains t b) x | inr y ↦ or_right (contains s b) (contains t b) y ],
    )

pub in_between : (lo hi b : ℕ) → IsByteIn (bytes_between lo hi) b ↔ ((lo ≤ b) × (b ≤ hi))
in_between lo hi b =
    let e = contains-bytes_between lo hi b in (
      λ h. (let p = and_parts (nat_le lo b) (nat_le b hi) (sym e ∙ h) in (leb-true lo b p.0, leb-true b hi p.1)),
      λ h. e ∙ and_from (nat_le lo b) (nat_le b hi) (le-leb lo b h.0) (le-leb b hi h.1),
    )

pub in_more : (s : FinSet nat_cmp) (k b : ℕ) → IsByteIn (insert s k) b ↔ ((b ≡ k) ⊎ IsByteIn s b)
in_more s k b =
    let e : contains (insert s k) b ≡ ((b == k) || contains s b) = contains-insert nat_cmp_total s k b ∙ ap (λ (x : Bool). x || contains s b) (unsigned_tied b k) in (
      λ h. elim (or_cases (b == k) (contains s b) (sym e ∙ h)) [ inl x ↦ inl (eqb-true b k x) | inr y ↦ inr y ],
      λ h. e ∙ elim h as (λ _. ((b == k) || contains s b) ≡ true) [ inl x ↦ or_left (b == k) (contains s b) (eq-eqb b k x) | inr y ↦ or_right (b == k) (contains s b) y ],
    )

-- a set and a single byte
pub with_single : (s : FinSet nat_cmp) (k : ℕ) → union s (insert empty k) ≡ insert s k
with_single s k = same_bytes (union s (insert empty k)) (insert s k) (λ b.
    contains-union nat_cmp_total s (insert empty k) b ∙
    ap (λ (x : Bool). contains s b || x) (contains-insert nat_cmp_total empty k b ∙ ap (λ (x : Bool). eq_by_cmp nat_cmp b k || x) (contains-empty nat_cmp b))
    ∙ turned (contains s b) (eq_by_cmp nat_cmp b k) ∙ sym (contains-insert nat_cmp_total s k b))
  where
    turned : (x y : Bool) → (x || (y || false)) ≡ (y || x)
    turned true true = refl
    turned true false = refl
    turned false true = refl
    turned false false = refl
