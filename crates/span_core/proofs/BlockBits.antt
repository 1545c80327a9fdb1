-- The bits of a block tell where the variables of a row start and end.
use Rattle.std.proofs.Common.{◌≡◌, ℕ, zero, suc, ◌+◌, ◌-◌, ◌*◌, ◌^◌, ◌<◌, true, false, List, [], ◌∷◌, length, get_or, refl, sym, ap, ◌∙◌, inl, inr, arith, Option, Some, None}
use Rattle.std.specs.Prelude.{◌==◌}
use Rattle.std.specs.Int.{from_bool, bit_at}
use Rattle.std.proofs.lemmas.Bool.{cases_eq, eq-eqb, ne_eqb}
use Rattle.std.proofs.lemmas.Nat.Bits.{bit_at-zero, bit_at_cat_low, bit_at_cat_high}
use Rattle.span_core.specs.declared.span.Span.{Span}
use Rattle.span_core.specs.Block.{opening_bit, closing_bit, markers_from, block}
use Rattle.span_core.specs.Digits.{digit}
use Rattle.span_core.specs.BlockLaws.{markers_are, markers_below}
use Rattle.span_core.specs.Blocks.{listed, IsRowOfBlocks, HasMarker}

-- ---- one digit

pub digit_opens : (s : Span) (at : ℕ) → bit_at (digit (Some s) at) 1 ≡ from_bool (s.start == at)
digit_opens s at = elim (s.start == at) as (λ b. bit_at (2 * from_bool b + from_bool (s.end == at)) 1 ≡ from_bool b) [
  | true ↦ elim (s.end == at) as (λ c. bit_at (2 * from_bool true + from_bool c) 1 ≡ 1) [ true ↦ refl | false ↦ refl ]
  | false ↦ elim (s.end == at) as (λ c. bit_at (2 * from_bool false + from_bool c) 1 ≡ 0) [ true ↦ refl | false ↦ refl ]
]

pub digit_closes : (s : Span) (at : ℕ) → bit_at (digit (Some s) at) 0 ≡ from_bool (s.end == at)
digit_closes s at = elim (s.end == at) as (λ c. bit_at (2 * from_bool (s.start == at) + from_bool c) 0 ≡ from_bool c) [
  | true ↦ elim (s.start == at) as (λ b. bit_at (2 * from_bool b + from_bool true) 0 ≡ 1) [ true ↦ refl | false ↦ refl ]
  | false ↦ elim (s.start == at) as (λ b. bit_at (2 * from_bool b + from_bool false) 0 ≡ 0) [ true ↦ refl | false ↦ refl ]
]

pub set_is : (x i : ℕ) → from_bool (x == i) ≡ 1 → x ≡ i
set_is x i h = elim (cases_eq x i) [ inl e ↦ e | inr ne ↦ absurd (omega (arith, h, ap from_bool (ne_eqb x i ne))) ]

pub set_here : (x : ℕ) → from_bool (x == x) ≡ 1
set_here x = ap from_bool (eq-eqb x x refl)

-- ---- the digits of a block

front_digit : (v k i : ℕ) (s : Option Span) (row : List (Option Span)) → k + 1 + length row ≡ v → markers_from v k (s ∷ row) i ≡ digit s i * 2 ^ (2 * (v - (k + 1))) + markers_from v (k + 1) row i
front_digit v k i s row h = ap (λ m. m + markers_from v (k + 1) row i) (markers_are v k i s (omega arith))

-- bit b of the digit of variable k + j, in what the variables from k on add
pub bit_tells : (v k i j b : ℕ) (row : List (Option Span)) (d : Option Span) → b < 2 → k + length row ≡ v → j < length row
    → bit_at (markers_from v k row i) (2 * (v - (k + j + 1)) + b) ≡ bit_at (digit (get_or row j d) i) b
bit_tells v k i j b [] d small h l = absurd (omega arith)
bit_tells v k i zero b (s ∷ row) d small h l =
    let bit = 2 * (v - (k + 0 + 1)) + b in
    let e : bit - 2 * (v - (k + 1)) ≡ b = omega arith in
    ap (λ m. bit_at m bit) (front_digit v k i s row (omega arith))
    ∙ bit_at_cat_high (digit s i) (2 * (v - (k + 1))) (markers_from v (k + 1) row i) bit (markers_below v (k + 1) i row (omega arith)) (omega arith)
    ∙ ap (bit_at (digit s i)) e
bit_tells v k i (suc j) b (s ∷ row) d small h l =
    let bit = 2 * (v - (k + suc j + 1)) + b in
    let e : bit ≡ 2 * (v - ((k + 1) + j + 1)) + b = omega arith in
    ap (λ m. bit_at m bit) (front_digit v k i s row (omega arith))
    ∙ bit_at_cat_low (digit s i) (2 * (v - (k + 1))) (markers_from v (k + 1) row i) bit (omega arith)
    ∙ ap (bit_at (markers_from v (k + 1) row i)) e
    ∙ bit_tells v (k + 1) i j b row d small (omega arith) (omega arith)

pub bit_positive : (n b : ℕ) → bit_at n b ≡ 1 → 0 < n
bit_positive zero b h = absurd (omega (arith, h, bit_at-zero b))
bit_positive (suc n) b h = omega arith

-- ---- the bits of a row's blocks

row_bit : (v k b at : ℕ) (row : List (Option Span)) (d : Option Span) → length row ≡ v → k < v → b < 2 → bit_at (block row at) (2 * (v - (k + 1)) + b) ≡ bit_at (digit (get_or row k d) at) b
row_bit v k b at row d h l small =
    let e : 2 * (v - (k + 1)) + b ≡ 2 * (v - (0 + k + 1)) + b = omega arith in
    ap (λ n. bit_at (markers_from n 0 row at) (2 * (v - (k + 1)) + b)) h ∙ ap (bit_at (markers_from v 0 row at)) e
    ∙ bit_tells v 0 at k b row d small (omega arith) (omega arith)

pub block_opens : (v k at : ℕ) (row : List (Option Span)) (d : Option Span) (s : Span) → length row ≡ v → k < v → get_or row k d ≡ Some s →
    bit_at (block row at) (opening_bit v k) ≡ from_bool (s.start == at)
block_opens v k at row d s h l is =
    let e : opening_bit v k ≡ 2 * (v - (k + 1)) + 1 = omega arith in
    ap (bit_at (block row at)) e ∙ row_bit v k 1 at row d h l (omega arith) ∙ ap (λ o. bit_at (digit o at) 1) is ∙ digit_opens s at

pub block_closes : (v k at : ℕ) (row : List (Option Span)) (d : Option Span) (s : Span) → length row ≡ v → k < v → get_or row k d ≡ Some s →
    bit_at (block row at) (closing_bit v k) ≡ from_bool (s.end == at)
block_closes v k at row d s h l is =
    let e : closing_bit v k ≡ 2 * (v - (k + 1)) + 0 = omega arith in
    ap (bit_at (block row at)) e ∙ row_bit v k 0 at row d h l (omega arith) ∙ ap (λ o. bit_at (digit o at) 0) is ∙ digit_closes s at

-- a variable that is absent sets neither of its bits
pub absent_opens : (v k at : ℕ) (row : List (Option Span)) (d : Option Span) → length row ≡ v → k < v → get_or row k d ≡ None → bit_at (block row at) (opening_bit v k) ≡ 0
absent_opens v k at row d h l is =
    let e : opening_bit v k ≡ 2 * (v - (k + 1)) + 1 = omega arith in
    ap (bit_at (block row at)) e ∙ row_bit v k 1 at row d h l (omega arith) ∙ ap (λ o. bit_at (digit o at) 1) is ∙ bit_at-zero 1

pub absent_closes : (v k at : ℕ) (row : List (Option Span)) (d : Option Span) → length row ≡ v → k < v → get_or row k d ≡ None → bit_at (block row at) (closing_bit v k) ≡ 0
absent_closes v k at row d h l is =
    let e : closing_bit v k ≡ 2 * (v - (k + 1)) + 0 = omega arith in
    ap (bit_at (block row at)) e ∙ row_bit v k 0 at row d h l (omega arith) ∙ ap (λ o. bit_at (digit o at) 0) is ∙ bit_at-zero 0

module _ (v k : ℕ) (blocks : List (ℕ × ℕ)) (row : List (Option Span)) (d : Option Span) (s : Span) (h : IsRowOfBlocks v blocks row) (l : k < v) (is : get_or row k d ≡ Some s) where
  pub row_opens : (at : ℕ) → bit_at (listed blocks at) (opening_bit v k) ≡ from_bool (s.start == at)
  row_opens at = ap (λ n. bit_at n (opening_bit v k)) (sym (h.blocks_are at)) ∙ block_opens v k at row d s h.variables l is

  pub row_closes : (at : ℕ) → bit_at (listed blocks at) (closing_bit v k) ≡ from_bool (s.end == at)
  row_closes at = ap (λ n. bit_at n (closing_bit v k)) (sym (h.blocks_are at)) ∙ block_closes v k at row d s h.variables l is

  pub start_is : (at : ℕ) → bit_at (listed blocks at) (opening_bit v k) ≡ 1 → s.start ≡ at
  start_is at set = set_is s.start at (sym (row_opens at) ∙ set)

  pub end_is : (at : ℕ) → bit_at (listed blocks at) (closing_bit v k) ≡ 1 → s.end ≡ at
  end_is at set = set_is s.end at (sym (row_closes at) ∙ set)

-- ---- which variables are absent

module _ (v k : ℕ) (blocks : List (ℕ × ℕ)) (row : List (Option Span)) (d : Option Span) (h : IsRowOfBlocks v blocks row) (l : k < v) where
  never_marked : get_or row k d ≡ None → HasMarker v k blocks → ⊥
  never_marked is (at, inl m) = omega (arith, m, ap (λ n. bit_at n (opening_bit v k)) (h.blocks_are at), absent_opens v k at row d h.variables l is)
  never_marked is (at, inr m) = omega (arith, m, ap (λ n. bit_at n (closing_bit v k)) (h.blocks_are at), absent_closes v k at row d h.variables l is)

  -- a variable with a marker has a span
  pub marked_present : HasMarker v k blocks → (s : Span) × (get_or row k d ≡ Some s)
  marked_present m = present (get_or row k d) refl
    where
      present : (o : Option Span) → get_or row k d ≡ o → (s : Span) × (get_or row k d ≡ Some s)
      present None is = absurd (never_marked is m)
      present (Some s) is = (s, is)

  -- a variable without one has none
  pub unmarked_absent : (HasMarker v k blocks → ⊥) → get_or row k d ≡ None
  unmarked_absent none = absent (get_or row k d) refl
    where
      absent : (o : Option Span) → get_or row k d ≡ o → get_or row k d ≡ None
      absent None is = is
      absent (Some s) is = absurd (none (s.start, inl (row_opens v k blocks row d s h l is s.start ∙ set_here s.start)))
