-- Blocks are those of a row, or have a fault: which of the two can be found by looking at finitely many positions and bits.
use Rattle.std.proofs.Common.{◌≡◌, ℕ, zero, suc, ◌+◌, ◌-◌, ◌*◌, ◌/◌, ◌%◌, ◌^◌, ◌<◌, ◌≤◌, ◌⊎◌, List, length, get_or, map, sym, ap, ◌∙◌, subst, inl, inr, arith, Option, Some, None}
use Rattle.std.specs.Prelude.{◌==◌}
use Rattle.std.specs.Int.{bit_at, from_bool}
use Rattle.std.proofs.lemmas.Bool.{cases_lt, cases_eq, ne_eqb}
use Rattle.std.proofs.Math.Nat.{pow-succ'}
use Rattle.std.specs.List.{range_with_len}
use Rattle.std.proofs.lemmas.List.FromFn.{get_or-map-range_with_len, length-map-range_with_len}
use Rattle.std.proofs.lemmas.Nat.Bits.{bit_at-lt, bit_at-zero, bit_at_above, same_from_bits}
use Rattle.span_core.specs.declared.span.Span.{Span}
use Rattle.span_core.specs.Block.{opening_bit, closing_bit, block}
use Rattle.span_core.specs.BlockLaws.{block_below}
use Rattle.span_core.specs.Blocks.{listed, IsRowOfBlocks, IsMarked, IsMarkedOnce, IsOpenedAndClosed, HasMarker, HaveFault, FaultsTellNoRow}
use Rattle.span_core.proofs.BlockBits.{marked_present, row_opens, row_closes, start_is, end_is, set_here, block_opens, block_closes, absent_opens, absent_closes}
use Rattle.span_core.proofs.ListedBlocks.{past_listed, listed_past}
use Rattle.span_core.proofs.Deciding.{Decided, decide_both, decide_either, decide_not, decide_le}

-- whether P holds of a number below n
module _ (P : ℕ → Type 0) (decide : (k : ℕ) → Decided (P k)) where
  abbrev FoundBelow : ℕ → Type 0
  FoundBelow n = ((k : ℕ) × (k < n) × P k) ⊎ ((k : ℕ) → k < n → P k → ⊥)

  one_more : (n : ℕ) → FoundBelow n → Decided (P n) → FoundBelow (suc n)
  one_more n (inl f) d = inl (f.0, omega (arith, f.1), f.2)
  one_more n (inr none) (inl p) = inl (n, omega arith, p)
  one_more n (inr none) (inr refuted) = inr (λ k l p. elim (cases_lt k n) [
    | inl below ↦ none k below p
    | inr above ↦ refuted (let e : k ≡ n = omega arith in subst P e p)
  ])

  search_below : (n : ℕ) → FoundBelow n
  search_below zero = inr (λ k l p. omega arith)
  search_below (suc n) = one_more n (search_below n) (decide n)

-- ---- the bits of the blocks

decide_marked : (blocks : List (ℕ × ℕ)) (bit at : ℕ) → Decided (IsMarked blocks bit at)
decide_marked blocks bit at = elim (cases_eq (bit_at (listed blocks at) bit) 1) [ inl e ↦ inl e | inr ne ↦ inr ne ]

never_past : (blocks : List (ℕ × ℕ)) (bit at : ℕ) → past_listed blocks ≤ at → IsMarked blocks bit at → ⊥
never_past blocks bit at h m = omega (arith, m, ap (λ n. bit_at n bit) (listed_past blocks at h), bit_at-zero bit)

-- what is marked is not past all that are listed
inside : (blocks : List (ℕ × ℕ)) (bit at : ℕ) → IsMarked blocks bit at → at < past_listed blocks
inside blocks bit at m = elim (cases_lt at (past_listed blocks)) [ inl l ↦ l | inr l ↦ absurd (never_past blocks bit at (omega (arith, l)) m) ]

decide_ne : (a b : ℕ) → Decided (a ≡ b → ⊥)
decide_ne a b = elim (cases_eq a b) [ inl e ↦ inr (λ ne. ne e) | inr ne ↦ inl ne ]

module _ (blocks : List (ℕ × ℕ)) (bit : ℕ) where
  abbrev Once : Type 0
  Once = (at : ℕ) × IsMarkedOnce blocks bit at

  abbrev MarkedElsewhere : ℕ → ℕ → Type 0
  MarkedElsewhere at other = IsMarked blocks bit other × (other ≡ at → ⊥)

  once_of : (at : ℕ) → IsMarked blocks bit at →
      FoundBelow (MarkedElsewhere at) (λ other. decide_both (IsMarked blocks bit other) (other ≡ at → ⊥) (decide_marked blocks bit other) (decide_ne other at)) (past_listed blocks) → Decided Once
  once_of at m (inl f) = inr (λ h. f.2.1 (h.1.1 f.0 f.2.0 ∙ sym (h.1.1 at m)))
  once_of at m (inr none) = inl (at, (m, λ other o. elim (cases_eq other at) [ inl e ↦ e | inr ne ↦ absurd (none other (inside blocks bit other o) (o, ne)) ]))

  once_from : FoundBelow (IsMarked blocks bit) (decide_marked blocks bit) (past_listed blocks) → Decided Once
  once_from (inl f) = once_of f.0 f.2
      (search_below (MarkedElsewhere f.0) (λ other. decide_both (IsMarked blocks bit other) (other ≡ f.0 → ⊥) (decide_marked blocks bit other) (decide_ne other f.0)) (past_listed blocks))
  once_from (inr none) = inr (λ h. none h.0 (inside blocks bit h.0 h.1.0) h.1.0)

  decide_once : Decided Once
  decide_once = once_from (search_below (IsMarked blocks bit) (decide_marked blocks bit) (past_listed blocks))

-- ---- the variables

module _ (v k : ℕ) (blocks : List (ℕ × ℕ)) where
  variable_from : Decided (Once blocks (opening_bit v k)) → Decided (Once blocks (closing_bit v k)) → Decided (IsOpenedAndClosed v k blocks)
  variable_from (inr refuted) d = inr (λ h. refuted (h.start, h.opened))
  variable_from (inl o) (inr refuted) = inr (λ h. refuted (h.end, h.closed))
  variable_from (inl o) (inl c) = elim (decide_le o.0 c.0) [
    | inl le ↦ inl (record { start = o.0; end = c.0; opened = o.1; closed = c.1; ordered = le })
    | inr refuted ↦ inr (λ h. refuted (omega (arith, h.ordered, o.1.1 h.start h.opened.0, c.1.1 h.end h.closed.0)))
  ]

  decide_variable : Decided (IsOpenedAndClosed v k blocks)
  decide_variable = variable_from (decide_once blocks (opening_bit v k)) (decide_once blocks (closing_bit v k))

  abbrev IsMarkedAt : ℕ → Type 0
  IsMarkedAt at = IsMarked blocks (opening_bit v k) at ⊎ IsMarked blocks (closing_bit v k) at

  decide_marked_at : (at : ℕ) → Decided (IsMarkedAt at)
  decide_marked_at at = decide_either (IsMarked blocks (opening_bit v k) at) (IsMarked blocks (closing_bit v k) at)
      (decide_marked blocks (opening_bit v k) at) (decide_marked blocks (closing_bit v k) at)

  marker_from : FoundBelow IsMarkedAt decide_marked_at (past_listed blocks) → Decided (HasMarker v k blocks)
  marker_from (inl f) = inl (f.0, f.2)
  marker_from (inr none) = inr (λ h. none h.0 (elim h.1 [ inl m ↦ inside blocks (opening_bit v k) h.0 m | inr m ↦ inside blocks (closing_bit v k) h.0 m ]) h.1)

  decide_marker : Decided (HasMarker v k blocks)
  decide_marker = marker_from (search_below IsMarkedAt decide_marked_at (past_listed blocks))

  -- a variable that is at fault has a marker, and is not opened and closed
  abbrev IsAtFault : Type 0
  IsAtFault = HasMarker v k blocks × (IsOpenedAndClosed v k blocks → ⊥)

  decide_at_fault : Decided IsAtFault
  decide_at_fault = decide_both (HasMarker v k blocks) (IsOpenedAndClosed v k blocks → ⊥) decide_marker (decide_not (IsOpenedAndClosed v k blocks) decide_variable)

-- ---- the bits of no variable

pub below_pow : (n : ℕ) → n < 2 ^ n
below_pow zero = omega arith
below_pow (suc n) = omega (arith, below_pow n, pow-succ' 2 n)

module _ (v : ℕ) (blocks : List (ℕ × ℕ)) where
  abbrev IsForeign : ℕ → ℕ → Type 0
  IsForeign at bit = (2 * v ≤ bit) × IsMarked blocks bit at

  decide_foreign : (at bit : ℕ) → Decided (IsForeign at bit)
  decide_foreign at bit = decide_both (2 * v ≤ bit) (IsMarked blocks bit at) (decide_le (2 * v) bit) (decide_marked blocks bit at)

  abbrev HasForeign : ℕ → Type 0
  HasForeign at = (bit : ℕ) × IsForeign at bit

  foreign_from : (at : ℕ) → FoundBelow (IsForeign at) (decide_foreign at) (listed blocks at) → Decided (HasForeign at)
  foreign_from at (inl f) = inl (f.0, f.2)
  foreign_from at (inr none) = inr (λ h. elim (cases_lt h.0 (listed blocks at)) [
    | inl l ↦ none h.0 l h.1
    | inr l ↦ omega (arith, h.1.1, bit_at_above (listed blocks at) h.0 h.0 (omega (arith, l, below_pow h.0)) (omega arith))
  ])

  decide_has_foreign : (at : ℕ) → Decided (HasForeign at)
  decide_has_foreign at = foreign_from at (search_below (IsForeign at) (decide_foreign at) (listed blocks at))

-- ---- blocks without a fault are those of a row

abbrev span_of : {v k : ℕ} {blocks : List (ℕ × ℕ)} → IsOpenedAndClosed v k blocks → Span
span_of c = record { start = c.start; end = c.end; ordered = c.ordered }

zero_or_one : (n : ℕ) → n < 2 → (n ≡ 1 → ⊥) → n ≡ 0
zero_or_one n l ne = elim (cases_eq n 1) [ inl e ↦ absurd (ne e) | inr h ↦ (let less : n < 1 = elim (cases_lt n 1) [ inl s ↦ s | inr g ↦ absurd (h (omega arith)) ] in omega arith) ]

-- the bit is set where its marker stands, and nowhere else
bit_of : (blocks : List (ℕ × ℕ)) (bit place at : ℕ) → IsMarkedOnce blocks bit place → bit_at (listed blocks at) bit ≡ from_bool (place == at)
bit_of blocks bit place at m = elim (cases_eq place at) [
  | inl e ↦ subst (λ (x : ℕ). bit_at (listed blocks x) bit ≡ from_bool (place == x)) e (m.0 ∙ sym (set_here place))
  | inr ne ↦ zero_or_one (bit_at (listed blocks at) bit) (bit_at-lt (listed blocks at) bit) (λ set. ne (sym (m.1 at set))) ∙ sym (ap from_bool (ne_eqb place at ne))
]

module _ (v : ℕ) (blocks : List (ℕ × ℕ)) where
  abbrev span_if : {k : ℕ} → Decided (IsOpenedAndClosed v k blocks) → Option Span
  span_if (inl c) = Some (span_of c)
  span_if (inr refuted) = None

  abbrev made_row : List (Option Span)
  made_row = map (λ k. span_if (decide_variable v k blocks)) (range_with_len 0 v)

  module _ (each : (k : ℕ) → k < v → IsAtFault v k blocks → ⊥) (none : (bit at : ℕ) → 2 * v ≤ bit → IsMarked blocks bit at → ⊥) where
    made_length : length made_row ≡ v
    made_length = length-map-range_with_len (λ k. span_if (decide_variable v k blocks)) 0 v

    made_at : (k : ℕ) → k < v → get_or made_row k None ≡ span_if (decide_variable v k blocks)
    made_at k l = get_or-map-range_with_len (λ k. span_if (decide_variable v k blocks)) 0 v k k None l (omega arith)

    -- a bit that is set nowhere, as those of a variable that is absent
    nowhere : (bit at : ℕ) → (IsMarked blocks bit at → ⊥) → bit_at (listed blocks at) bit ≡ 0
    nowhere bit at none_at = zero_or_one (bit_at (listed blocks at) bit) (bit_at-lt (listed blocks at) bit) none_at

    opening_made : (k at : ℕ) → k < v → (d : Decided (IsOpenedAndClosed v k blocks)) → get_or made_row k None ≡ span_if d
        → bit_at (block made_row at) (opening_bit v k) ≡ bit_at (listed blocks at) (opening_bit v k)
    opening_made k at l (inl c) is = block_opens v k at made_row None (span_of c) made_length l is ∙ sym (bit_of blocks (opening_bit v k) c.start at c.opened)
    opening_made k at l (inr refuted) is = absent_opens v k at made_row None made_length l is ∙ sym (nowhere (opening_bit v k) at (λ m. each k l ((at, inl m), refuted)))

    closing_made : (k at : ℕ) → k < v → (d : Decided (IsOpenedAndClosed v k blocks)) → get_or made_row k None ≡ span_if d
        → bit_at (block made_row at) (closing_bit v k) ≡ bit_at (listed blocks at) (closing_bit v k)
    closing_made k at l (inl c) is = block_closes v k at made_row None (span_of c) made_length l is ∙ sym (bit_of blocks (closing_bit v k) c.end at c.closed)
    closing_made k at l (inr refuted) is = absent_closes v k at made_row None made_length l is ∙ sym (nowhere (closing_bit v k) at (λ m. each k l ((at, inr m), refuted)))

    bit_made : (at bit : ℕ) → bit_at (block made_row at) bit ≡ bit_at (listed blocks at) bit
    bit_made at bit = elim (cases_lt bit (2 * v)) [
      | inl l ↦ (let k = v - (bit / 2 + 1) in elim (cases_eq (bit % 2) 1) [
        | inl odd ↦ (let e : opening_bit v k ≡ bit = omega arith in
            subst (λ (b : ℕ). bit_at (block made_row at) b ≡ bit_at (listed blocks at) b) e (opening_made k at (omega arith) (decide_variable v k blocks) (made_at k (omega arith))))
        | inr even ↦ (let h : bit % 2 ≡ 0 = zero_or_one (bit % 2) (omega arith) even in
            let e : closing_bit v k ≡ bit = omega arith in
            subst (λ (b : ℕ). bit_at (block made_row at) b ≡ bit_at (listed blocks at) b) e (closing_made k at (omega arith) (decide_variable v k blocks) (made_at k (omega arith))))
      ])
      | inr above ↦ (let le : 2 * v ≤ bit = omega (arith, above) in
          bit_at_above (block made_row at) (2 * v) bit (block_below v at made_row made_length) le ∙
          sym (zero_or_one (bit_at (listed blocks at) bit) (bit_at-lt (listed blocks at) bit) (none bit at le)))
    ]

    made_is : IsRowOfBlocks v blocks made_row
    made_is = record {
      variables = made_length;
      blocks_are = λ at. same_from_bits (block made_row at) (listed blocks at) (bit_made at);
    }

-- ---- the law

module _ (v : ℕ) (blocks : List (ℕ × ℕ)) where
  abbrev NoRow : Type 0
  NoRow = (row : List (Option Span)) → IsRowOfBlocks v blocks row → ⊥

  abbrev AtFault : ℕ → Type 0
  AtFault k = IsAtFault v k blocks

  decide_each : (k : ℕ) → Decided (AtFault k)
  decide_each k = decide_at_fault v k blocks

  fault_in_bits : NoRow → ((k : ℕ) → k < v → AtFault k → ⊥) → FoundBelow (HasForeign v blocks) (decide_has_foreign v blocks) (past_listed blocks) → HaveFault v blocks
  fault_in_bits refuse each (inl f) = inr (f.2.0, f.0, f.2.1.0, f.2.1.1)
  fault_in_bits refuse each (inr none) =
      absurd (refuse (made_row v blocks) (made_is v blocks each (λ bit at le m. none at (inside blocks bit at m) (bit, (le, m)))))

  fault_from : NoRow → FoundBelow AtFault decide_each v → HaveFault v blocks
  fault_from refuse (inl f) = inl (f.0, f.1, f.2.0, f.2.1)
  fault_from refuse (inr each) = fault_in_bits refuse each (search_below (HasForeign v blocks) (decide_has_foreign v blocks) (past_listed blocks))

  pub fault_found : NoRow → HaveFault v blocks
  fault_found refuse = fault_from refuse (search_below AtFault decide_each v)

  -- each variable of a row that has a marker is opened and closed
  row_opened_and_closed : (row : List (Option Span)) → IsRowOfBlocks v blocks row → (k : ℕ) → k < v → HasMarker v k blocks → IsOpenedAndClosed v k blocks
  row_opened_and_closed row h k l marker =
      let s = marked_present v k blocks row None h l marker in
      record {
        start = s.0.start;
        end = s.0.end;
        opened = (row_opens v k blocks row None s.0 h l s.1 s.0.start ∙ set_here s.0.start, λ other m. sym (start_is v k blocks row None s.0 h l s.1 other m));
        closed = (row_closes v k blocks row None s.0 h l s.1 s.0.end ∙ set_here s.0.end, λ other m. sym (end_is v k blocks row None s.0 h l s.1 other m));
        ordered = s.0.ordered;
      }

  pub fault_refuses : HaveFault v blocks → NoRow
  fault_refuses (inl f) row h = f.3 (row_opened_and_closed row h f.0 f.1 f.2)
  fault_refuses (inr f) row h =
      omega (arith, f.3, ap (λ n. bit_at n f.0) (h.blocks_are f.1), bit_at_above (block row f.1) (2 * v) f.0 (block_below v f.1 row h.variables) f.2)

pub faults_tell_no_row_lem : FaultsTellNoRow
faults_tell_no_row_lem v blocks = (fault_found v blocks, fault_refuses v blocks)
