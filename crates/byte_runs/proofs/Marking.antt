-- Bytes that are marked in a table, looked for by eight at a time.
use Rattle.std.proofs.Common.{◌≡◌, ℕ, ◌+◌, ◌<◌, Bool, true, false, refl, sym, ap, ◌∙◌, subst, arith, inl, inr, List, length, set, slice_index}
use Rattle.std.specs.Prelude.{◌||◌}
use Rattle.std.specs.Ordering.{nat_cmp}
use Rattle.std.specs.FinSet.{FinSet}
use Rattle.std.proofs.lemmas.Bool.{cases_eq}
use Rattle.std.proofs.lemmas.List.{get_or-set_same, get_or-set_other}
use Rattle.memchr.specs.Find.{Nowhere, Passes}
use Rattle.span_core.specs.ByteSets.{bytes_between}
use Rattle.byte_runs.specs.Runs.{AreMarked, is_marked, is_outside}
use Rattle.byte_runs.proofs.SetLaws.{none_is_outside_all}

-- where an or is false both are
neither : (x y : Bool) → (x || y) ≡ false → (x ≡ false) × (y ≡ false)
neither true y e = absurd (cc)
neither false y e = (refl, e)

-- one place more
one_on : (P : ℕ → Type 0) (i j end : ℕ) → end ≡ j + 1 → Nowhere P i j → (P j → ⊥) → Nowhere P i end
one_on P i j end e none here k low less p = elim (cases_eq k j) [ inl same ↦ here (subst P same p) | inr ne ↦ none k low (omega (arith, ne, less, e)) p ]

-- of eight places none is marked where the or of the eight is false
pub eight_unmarked : (marks : List Bool) (bytes : List ℕ) (i : ℕ) →
    (is_marked marks (slice_index bytes i) || is_marked marks (slice_index bytes (i + 1)) || is_marked marks (slice_index bytes (i + 2)) || is_marked marks (slice_index bytes (i + 3))
    || is_marked marks (slice_index bytes (i + 4)) || is_marked marks (slice_index bytes (i + 5)) || is_marked marks (slice_index bytes (i + 6)) ||
    is_marked marks (slice_index bytes (i + 7))) ≡ false →
    Nowhere (Passes (is_marked marks) bytes) i (i + 8)
eight_unmarked marks bytes i e =
    let a7 = neither (m0 || m 1 || m 2 || m 3 || m 4 || m 5 || m 6) (m 7) e in
    let a6 = neither (m0 || m 1 || m 2 || m 3 || m 4 || m 5) (m 6) a7.0 in
    let a5 = neither (m0 || m 1 || m 2 || m 3 || m 4) (m 5) a6.0 in
    let a4 = neither (m0 || m 1 || m 2 || m 3) (m 4) a5.0 in
    let a3 = neither (m0 || m 1 || m 2) (m 3) a4.0 in
    let a2 = neither (m0 || m 1) (m 2) a3.0 in
    let a1 = neither m0 (m 1) a2.0 in
    let n0 : Nowhere P i i = λ k low less p. absurd (omega (arith, low, less)) in
    let n1 = one_on P i i (i + 1) (omega arith) n0 (λ p. no i a1.0 p) in
    let n2 = one_on P i (i + 1) (i + 2) (omega arith) n1 (λ p. no (i + 1) a1.1 p) in
    let n3 = one_on P i (i + 2) (i + 3) (omega arith) n2 (λ p. no (i + 2) a2.1 p) in
    let n4 = one_on P i (i + 3) (i + 4) (omega arith) n3 (λ p. no (i + 3) a3.1 p) in
    let n5 = one_on P i (i + 4) (i + 5) (omega arith) n4 (λ p. no (i + 4) a4.1 p) in
    let n6 = one_on P i (i + 5) (i + 6) (omega arith) n5 (λ p. no (i + 5) a5.1 p) in
    let n7 = one_on P i (i + 6) (i + 7) (omega arith) n6 (λ p. no (i + 6) a6.1 p) in
    one_on P i (i + 7) (i + 8) (omega arith) n7 (λ p. no (i + 7) a7.1 p)
  where
    P : ℕ → Type 0
    P = Passes (is_marked marks) bytes

    m0 : Bool
    m0 = is_marked marks (slice_index bytes i)

    m : ℕ → Bool
    m k = is_marked marks (slice_index bytes (i + k))

    no : (j : ℕ) → is_marked marks (slice_index bytes j) ≡ false → is_marked marks (slice_index bytes j) ≡ true → ⊥
    no j is p = absurd (cc)

-- one byte more of a table
pub one_more_mark : (set_of : FinSet nat_cmp) (marks : List Bool) (n : ℕ) (mark : Bool) → mark ≡ is_outside set_of n → n < length marks →
    ((b : ℕ) → b < n → is_marked marks b ≡ is_outside set_of b) → (b : ℕ) → b < n + 1 → is_marked (set marks n mark) b ≡ is_outside set_of b
one_more_mark set_of marks n mark is within before b less = elim (cases_eq b n) [
  | inl same ↦ ap (is_marked (set marks n mark)) same ∙ get_or-set_same marks n mark false within ∙ is ∙ ap (is_outside set_of) (sym same)
  | inr ne ↦ get_or-set_other marks n b mark false ne ∙ before b (omega (arith, ne, less))
]

-- where no byte is marked, those outside of the set of all are
pub none_marked : (all : FinSet nat_cmp) (marks : List Bool) → all ≡ bytes_between 0 255 → ((b : ℕ) → b < 256 → is_marked marks b ≡ false) → AreMarked all marks
none_marked all marks e none b less = none b less ∙ none_is_outside_all all b e less
