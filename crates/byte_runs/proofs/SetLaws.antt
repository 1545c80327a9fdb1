-- Sets of bytes that have the same members.
use Rattle.std.proofs.Common.{◌≡◌, ℕ, ◌+◌, ◌<◌, ◌≤◌, ◌-◌, Bool, true, false, not, nat_le, nat_lt, refl, inl, inr, sym, ap, ◌∙◌, subst, arith, List, length, take, drop, Option, Some, None, slice_index}
use Rattle.std.specs.Prelude.{◌&&◌, ◌||◌, ◌==◌, ◌⊎◌, MatchOption}
use Rattle.std.specs.Ordering.{nat_cmp}
use Rattle.std.specs.FinSet.{FinSet, contains, empty, intersection, difference, contains-intersection, contains-difference, contains-empty}
use Rattle.std.proofs.lemmas.Cmp.{nat_cmp_total}
use Rattle.std.proofs.lemmas.Bool.{le-leb, ltb-true}
use Rattle.std.proofs.lemmas.List.{get_or-drop, length-drop}
use Rattle.std.proofs.Math.Seq.{take-length}
use Rattle.std.proofs.lemmas.Bool.Decides.{eqb_tells, leb_tells}
use Rattle.std.proofs.Math.Bool.{or-false, and-false, or-true}
use Rattle.memchr.specs.Find.{IsFirstByte, Nowhere, NoneBefore, Passes, is_byte, is_byte2, is_byte3}
use Rattle.byte_runs.specs.Runs.{AreOutsideBelow, HaveSameBytes, IsTestBelow, is_outside}
use Rattle.byte_runs.specs.declared.skipper.Leaving.{Leaving}
use Rattle.byte_runs.specs.declared.skipper.Leaving.TheVariants.{None as NoByte, One, Two, Three, Many}
use Rattle.span_core.specs.ByteSets.{bytes_between}
use Rattle.span_core.specs.ByteWordLaws.{contains-bytes_between}

-- where nothing of the one set is outside of the other, no byte is
none_is_outside : (s t : FinSet nat_cmp) (b : ℕ) → b < 256 → intersection s (difference (bytes_between 0 255) t) ≡ empty → (contains s b && not (contains t b)) ≡ false
none_is_outside s t b less none =
    let rest = difference (bytes_between 0 255) t in
    let outside : contains rest b ≡ not (contains t b) =
    contains-difference nat_cmp_total (bytes_between 0 255) t b
    ∙ ap (λ x. x && not (contains t b)) (contains-bytes_between 0 255 b ∙ ap (λ x. x && nat_le b 255) (le-leb 0 b (omega arith)) ∙ le-leb b 255 (omega arith)) in
    sym (contains-intersection nat_cmp_total s rest b ∙ ap (λ x. contains s b && x) outside) ∙ ap (λ u. contains u b) none ∙ contains-empty nat_cmp b

agree : (x y : Bool) → (x && not y) ≡ false → (y && not x) ≡ false → x ≡ y
agree true true e f = refl
agree true false e f = e
agree false true e f = sym f
agree false false e f = refl

-- sets of which neither has a byte outside of the other have the same bytes
pub same_bytes : (s t : FinSet nat_cmp) → intersection s (difference (bytes_between 0 255) t) ≡ empty → intersection t (difference (bytes_between 0 255) s) ≡ empty →
    (b : ℕ) → b < 256 → contains s b ≡ contains t b
same_bytes s t e f b less = agree (contains s b) (contains t b) (none_is_outside s t b less e) (none_is_outside t s b less f)

-- each byte is in the set of all
pub all_bytes : (b : ℕ) → b < 256 → contains (bytes_between 0 255) b ≡ true
all_bytes b less = contains-bytes_between 0 255 b ∙ ap (λ x. x && nat_le b 255) (le-leb 0 b (omega arith)) ∙ le-leb b 255 (omega arith)

-- below one more number: below as before, or that number
below_more : (b n : ℕ) → nat_lt b (n + 1) ≡ (nat_lt b n || (b == n))
below_more b n = grind (arith, leb_tells (b + 1) (n + 1), leb_tells (b + 1) n, eqb_tells b n)

-- what is outside below one more number that is outside
one_more : (set : FinSet nat_cmp) (n : ℕ) (old new : ℕ → Bool) → contains set n ≡ false → IsTestBelow n set old → ((b : ℕ) → new b ≡ (old b || (b == n))) → IsTestBelow (n + 1) set new
one_more set n old new out is grown b = grown b ∙ ap (λ x. x || (b == n)) (is b) ∙ both (eqb_tells b n)
  where
    both : (((b == n) ≡ true) × (b ≡ n)) ⊎ (((b == n) ≡ false) × ((b ≡ n) → ⊥)) → ((nat_lt b n && is_outside set b) || (b == n)) ≡ (nat_lt b (n + 1) && is_outside set b)
    both (inl e) =
        ap (λ x. (nat_lt b n && is_outside set b) || x) e.0 ∙ or-true (nat_lt b n && is_outside set b)
        ∙ sym (ap (λ x. x && is_outside set b) (below_more b n ∙ ap (λ x. nat_lt b n || x) e.0 ∙ or-true (nat_lt b n)) ∙ ap not (ap (contains set) e.1 ∙ out))
    both (inr e) =
        ap (λ x. (nat_lt b n && is_outside set b) || x) e.0 ∙ or-false (nat_lt b n && is_outside set b)
        ∙ sym (ap (λ x. x && is_outside set b) (below_more b n ∙ ap (λ x. nat_lt b n || x) e.0 ∙ or-false (nat_lt b n)))

-- what is outside below one more number that is not
none_more : (set : FinSet nat_cmp) (n : ℕ) (test : ℕ → Bool) → contains set n ≡ true → IsTestBelow n set test → IsTestBelow (n + 1) set test
none_more set n test inside is b = is b ∙ both (eqb_tells b n)
  where
    both : (((b == n) ≡ true) × (b ≡ n)) ⊎ (((b == n) ≡ false) × ((b ≡ n) → ⊥)) → (nat_lt b n && is_outside set b) ≡ (nat_lt b (n + 1) && is_outside set b)
    both (inl e) =
        let no : is_outside set b ≡ false = ap not (ap (contains set) e.1 ∙ inside) in
        ap (λ x. nat_lt b n && x) no ∙ and-false (nat_lt b n) ∙ sym (ap (λ x. nat_lt b (n + 1) && x) no ∙ and-false (nat_lt b (n + 1)))
    both (inr e) = sym (ap (λ x. x && is_outside set b) (below_more b n ∙ ap (λ x. nat_lt b n || x) e.0 ∙ or-false (nat_lt b n)))

pub first_outside : (set : FinSet nat_cmp) (n : ℕ) → contains set n ≡ false → AreOutsideBelow n set NoByte → AreOutsideBelow (n + 1) set (One n)
first_outside set n out is = one_more set n (λ b. false) (is_byte n) out is (λ b. refl)

pub second_outside : (set : FinSet nat_cmp) (n x : ℕ) → contains set n ≡ false → AreOutsideBelow n set (One x) → AreOutsideBelow (n + 1) set (Two x n)
second_outside set n x out is = one_more set n (is_byte x) (is_byte2 x n) out is (λ b. refl)

pub third_outside : (set : FinSet nat_cmp) (n x y : ℕ) → contains set n ≡ false → AreOutsideBelow n set (Two x y) → AreOutsideBelow (n + 1) set (Three x y n)
third_outside set n x y out is = one_more set n (is_byte2 x y) (is_byte3 x y n) out is (λ b. refl)

pub one_more_inside : (set : FinSet nat_cmp) (n : ℕ) (leaving : Leaving) → contains set n ≡ true → AreOutsideBelow n set leaving → AreOutsideBelow (n + 1) set leaving
one_more_inside set n NoByte inside is = none_more set n (λ b. false) inside is
one_more_inside set n (One x) inside is = none_more set n (is_byte x) inside is
one_more_inside set n (Two x y) inside is = none_more set n (is_byte2 x y) inside is
one_more_inside set n (Three x y z) inside is = none_more set n (is_byte3 x y z) inside is
one_more_inside set n Many inside is = is

-- of all bytes none is outside
pub none_outside : (set : FinSet nat_cmp) → set ≡ bytes_between 0 255 → AreOutsideBelow 256 set NoByte
none_outside set e b = go (nat_lt b 256) refl
  where
    go : (is : Bool) → nat_lt b 256 ≡ is → false ≡ (nat_lt b 256 && is_outside set b)
    go true is = sym (ap (λ x. x && is_outside set b) is ∙ ap not (ap (λ s. contains s b) e ∙ all_bytes b (ltb-true b 256 is)))
    go false is = sym (ap (λ x. x && is_outside set b) is)

-- what is left of a list behind a place
rest_is : (bytes : List ℕ) (head : ℕ) → take (length bytes - head) (drop head bytes) ≡ drop head bytes
rest_is bytes head = ap (λ n. take n (drop head bytes)) (sym (length-drop head bytes)) ∙ take-length (drop head bytes)

-- what holds at no place of the head, and at none behind it, holds nowhere
nowhere_in_both : (P : ℕ → Type 0) (head end : ℕ) → Nowhere P 0 head → ((i : ℕ) → head + i < end → P (head + i) → ⊥) → Nowhere P 0 end
nowhere_in_both P head end before behind j low less p = go (leb_tells head j)
  where
    go : ((nat_le head j ≡ true) × (head ≤ j)) ⊎ ((nat_le head j ≡ false) × (j < head)) → ⊥
    go (inl is) =
        let at : head + (j - head) ≡ j = omega arith in
        behind (j - head) (subst (λ n. n < end) (sym at) less) (subst P (sym at) p)
    go (inr is) = before j low is.1 p

-- where no place of the head passes, the first place behind it that does is the first of all
pub behind_head : (set other : FinSet nat_cmp) (bytes : List ℕ) (head : ℕ) → head ≤ length bytes → ((i : ℕ) → slice_index bytes i < 256) → HaveSameBytes other set →
    Nowhere (Passes (is_outside set) bytes) 0 head → (r : Option ℕ) → IsFirstByte (is_outside other) (take (length bytes - head) (drop head bytes)) r →
    MatchOption r (Nowhere (Passes (is_outside set) bytes) 0 (length bytes)) (λ k. NoneBefore (Passes (is_outside set) bytes) 0 (length bytes) (head + k) × Passes (is_outside set) bytes (head + k))
behind_head set other bytes head within fits same before r first = of_rest r (subst (λ rest. IsFirstByte (is_outside other) rest r) (rest_is bytes head) first)
  where
    Outside : ℕ → Type 0
    Outside = Passes (is_outside set) bytes

    there : (i : ℕ) → is_outside other (slice_index (drop head bytes) i) ≡ is_outside set (slice_index bytes (head + i))
    there i = ap (is_outside other) (get_or-drop head bytes i 0) ∙ ap not (same (slice_index bytes (head + i)) (fits (head + i)))

    of_rest : (r : Option ℕ) → IsFirstByte (is_outside other) (drop head bytes) r →
        MatchOption r (Nowhere Outside 0 (length bytes)) (λ k. NoneBefore Outside 0 (length bytes) (head + k) × Outside (head + k))
    of_rest None nowhere =
        nowhere_in_both Outside head (length bytes) before (λ i less p. nowhere i (omega arith) (subst (λ n. i < n) (sym (length-drop head bytes)) (omega arith)) (there i ∙ p))
    of_rest (Some k) is =
        let high : k < length bytes - head = subst (λ n. k < n) (length-drop head bytes) is.0.high in (
          record {
            low = omega arith;
            high = omega arith;
            before = nowhere_in_both Outside head (head + k) before (λ i less p. is.0.before i (omega arith) (omega arith) (there i ∙ p));
          },
          sym (there k) ∙ is.1,
        )

pub none_is_outside_all : (set : FinSet nat_cmp) (b : ℕ) → set ≡ bytes_between 0 255 → b < 256 → false ≡ is_outside set b
none_is_outside_all set b e less = sym (ap not (ap (λ s. contains s b) e ∙ all_bytes b less))
