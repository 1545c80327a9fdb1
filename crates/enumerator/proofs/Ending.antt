-- A row with another end of one variable.
use Rattle.std.proofs.Common.{◌≡◌, ℕ, ◌-◌, ◌*◌, ◌^◌, ◌<◌, ◌≤◌, Bool, true, false, ◌&&◌, nat_le, List, length, get_or, set, take, [], ◌∷◌, zero, suc, Option, Some, None, inl, inr}
use Rattle.std.proofs.Common.{refl, sym, ap, ap₂, ◌∙◌, arith, eq-eqb, get_or-set_same, get_or-set_other, length-set}
use Rattle.std.specs.Prelude.{◌==◌, if◌then◌else◌}
use Rattle.std.specs.Int.{bit_at}
use Rattle.std.proofs.lemmas.Bool.{cases_eq, cond-true, cond-false}
use Rattle.std.proofs.lemmas.List.{ext_get_or}
use Rattle.std.proofs.lemmas.List.FromFn.{get_or-map-range_with_len, length-map-range_with_len}
use Rattle.std.proofs.lemmas.Nat.Bits.{bit_at-pow_same, bit_at-pow_other}
use Rattle.std.proofs.Math.Seq.{take-set-lt}
use Rattle.std.proofs.lemmas.List.{get_or-take}
use Rattle.span_core.specs.declared.span.Span.{Span}
use Rattle.span_core.specs.Block.{opening_bit, closing_bit}
use Rattle.enumerator.specs.Enumeration.{SpanRow}
use Rattle.enumerator.specs.Rows.{Positions, has, put, positions_of, row_of, span_if, span_between, span_of}
use Rattle.enumerator.proofs.Spans.{given, span_between_is}

-- ---- one marker is put

has_own : (c : ℕ) → has (2 ^ c) c ≡ true
has_own c = eq-eqb (bit_at (2 ^ c) c) 1 (bit_at-pow_same c)

has_other : (c bit : ℕ) → (bit ≡ c → ⊥) → has (2 ^ c) bit ≡ false
has_other c bit ne = ap (λ n. n == 1) (bit_at-pow_other c bit ne)

put_own : (P : Positions) (c at : ℕ) → put P (at, 2 ^ c) c ≡ at
put_own P c at = cond-true (has (2 ^ c) c) at (P c) (has_own c)

put_other : (P : Positions) (c at bit : ℕ) → (bit ≡ c → ⊥) → put P (at, 2 ^ c) bit ≡ P bit
put_other P c at bit ne = cond-false (has (2 ^ c) bit) at (P bit) (has_other c bit ne)

pub end_put : (positions : List ℕ) (c at marks bit : ℕ) → c < length positions → marks ≡ 2 ^ c → positions_of (set positions c at) bit ≡ put (positions_of positions) (at, marks) bit
end_put positions c at marks bit l is = put_it ∙ ap (λ n. put (positions_of positions) (at, n) bit) (sym is)
  where
    put_it : positions_of (set positions c at) bit ≡ put (positions_of positions) (at, 2 ^ c) bit
    put_it = elim (cases_eq bit c) [
      | inl e ↦
          ap (λ k. get_or (set positions c at) k 0) e ∙ get_or-set_same positions c at 0 l
          ∙ sym (put_own (positions_of positions) c at) ∙ ap (put (positions_of positions) (at, 2 ^ c)) (sym e)
      | inr ne ↦ get_or-set_other positions c bit at 0 ne ∙ sym (put_other (positions_of positions) c at bit ne)
    ]

-- ---- what is known of a span that is there

was_given : (a b : Bool) (x y : ℕ) (s : Span) → (if a && b then span_between x y else None) ≡ Some s → (a ≡ true) × ((b ≡ true) × (span_between x y ≡ Some s))
was_given true true x y s h = (refl, (refl, h))
was_given true false x y s h = absurd cc
was_given false b x y s h = absurd cc

abbrev start_of : Option Span → ℕ
start_of None = 0
start_of (Some s) = s.start

starts : (x y : ℕ) (b : Bool) (h : nat_le x y ≡ b) (s : Span) → span_if x y b h ≡ Some s → x ≡ s.start
starts x y true h s e = ap start_of e
starts x y false h s e = absurd cc

module _ (v m k at : ℕ) (P : Positions) (l : k < v) where
  abbrev ended : Positions
  ended = put P (at, 2 ^ closing_bit v k)

  -- the span that has this end now
  pub span_ended : (s b : Span) → span_of v m P k ≡ Some s → b.start ≡ s.start → b.end ≡ at → span_of v m ended k ≡ Some b
  span_ended s b was start end =
      let w = was_given (has m (opening_bit v k)) (has m (closing_bit v k)) (P (opening_bit v k)) (P (closing_bit v k)) s was in
      let other : opening_bit v k ≡ closing_bit v k → ⊥ = λ e. omega (arith, e) in
      let from : ended (opening_bit v k) ≡ b.start =
      put_other P (closing_bit v k) at (opening_bit v k) other ∙ starts (P (opening_bit v k)) (P (closing_bit v k)) (nat_le (P (opening_bit v k)) (P (closing_bit v k))) refl s w.1.1 ∙ sym start in
      given v m ended k w.0 w.1.0 ∙ span_between_is b (ended (opening_bit v k)) (ended (closing_bit v k)) from (put_own P (closing_bit v k) at ∙ sym end)

  pub span_ended_any : (s : Span) → span_of v m P k ≡ Some s → span_of v m ended k ≡ span_between s.start at
  span_ended_any s was =
      let w = was_given (has m (opening_bit v k)) (has m (closing_bit v k)) (P (opening_bit v k)) (P (closing_bit v k)) s was in
      let other : opening_bit v k ≡ closing_bit v k → ⊥ = λ e. omega (arith, e) in
      let from : ended (opening_bit v k) ≡ s.start =
      put_other P (closing_bit v k) at (opening_bit v k) other ∙ starts (P (opening_bit v k)) (P (closing_bit v k)) (nat_le (P (opening_bit v k)) (P (closing_bit v k))) refl s w.1.1 in
      given v m ended k w.0 w.1.0 ∙ ap₂ span_between from (put_own P (closing_bit v k) at)

  -- the others
  span_stays : (j : ℕ) → j < v → (j ≡ k → ⊥) → span_of v m ended j ≡ span_of v m P j
  span_stays j lj ne =
      let a : opening_bit v j ≡ closing_bit v k → ⊥ = λ e. omega (arith, e) in
      let b : closing_bit v j ≡ closing_bit v k → ⊥ = λ e. ne (omega (arith, e)) in
      ap₂ (λ x y. if has m (opening_bit v j) && has m (closing_bit v j) then span_between x y else None)
      (put_other P (closing_bit v k) at (opening_bit v j) a) (put_other P (closing_bit v k) at (closing_bit v j) b)

  pub row_ended : (row : SpanRow) (x : Option Span) → row ≡ row_of v m P → span_of v m ended k ≡ x → set row k x ≡ row_of v m ended
  row_ended row x is new =
      let long : length row ≡ v = ap length is ∙ length-map-range_with_len (span_of v m P) 0 v in
      let same : length (row_of v m ended) ≡ v = length-map-range_with_len (span_of v m ended) 0 v in
      ext_get_or None (set row k x) (row_of v m ended) (length-set row k x ∙ long ∙ sym same) (λ j lt.
      let lj : j < v = omega (arith, lt, long, length-set row k x) in
      let there : get_or (row_of v m ended) j None ≡ span_of v m ended j = get_or-map-range_with_len (span_of v m ended) 0 v j j None lj (omega arith) in
      elim (cases_eq j k) as (λ _. get_or (set row k x) j None ≡ get_or (row_of v m ended) j None) [
        | inl e ↦
            ap (λ i. get_or (set row k x) i None) e ∙ get_or-set_same row k x None (omega (arith, l, long))
            ∙ sym new ∙ ap (span_of v m ended) (sym e) ∙ sym there
        | inr ne ↦
            get_or-set_other row k j x None ne ∙ ap (λ (r : SpanRow). get_or r j None) is
            ∙ get_or-map-range_with_len (span_of v m P) 0 v j j None lj (omega arith) ∙ sym (span_stays j lj ne) ∙ sym there
      ])

  pub span_there : (row : SpanRow) (s : Span) → row ≡ row_of v m P → get_or row k None ≡ Some s → span_of v m P k ≡ Some s
  span_there row s is at_k =
      sym (get_or-map-range_with_len (span_of v m P) 0 v k k None l (omega arith)) ∙ ap (λ (r : SpanRow). get_or r k None) (sym is) ∙ at_k

pub any_default : (xs : SpanRow) (i : ℕ) (d e : Option Span) → i < length xs → get_or xs i d ≡ get_or xs i e
any_default [] i d e l = absurd (omega (arith, l))
any_default (x ∷ xs) zero d e l = refl
any_default (x ∷ xs) (suc i) d e l = any_default xs i d e (omega (arith, l))

-- as the code has it: the spans are the first v of an array, and half of the marker's bit is told
pub ends_row : (v m h at marks : ℕ) (positions : List ℕ) (spans : SpanRow) (s b : Span) → h < v → 2 * h < length positions → v ≤ length spans → marks ≡ 2 ^ closing_bit v (v - 1 - h)
    → take v spans ≡ row_of v m (positions_of positions) → (x : Option Span) → get_or spans (v - 1 - h) x ≡ Some s → b.start ≡ s.start → b.end ≡ at
    → ((bit : ℕ) → positions_of (set positions (2 * h) at) bit ≡ put (positions_of positions) (at, marks) bit)
    × (take v (set spans (v - 1 - h) (Some b)) ≡ row_of v m (positions_of (set positions (2 * h) at)))
ends_row v m h at marks positions spans s b l few long is row x some start end =
    let k : ℕ = v - 1 - h in
    let lk : k < v = omega (arith, l) in
    let P = positions_of positions in
    let bit_is : closing_bit v k ≡ 2 * h = omega (arith, l) in
    let marks_is : marks ≡ 2 ^ (2 * h) = is ∙ ap (λ n. 2 ^ n) bit_is in
    let puts : (bit : ℕ) → positions_of (set positions (2 * h) at) bit ≡ put P (at, marks) bit = λ bit. end_put positions (2 * h) at marks bit few marks_is in
    let same : put P (at, 2 ^ closing_bit v k) ≡ positions_of (set positions (2 * h) at) = λ i bit. (sym (puts bit ∙ ap (λ n. put P (at, n) bit) is)) i in
    let inside : k < length spans = omega (arith, lk, long) in
    let there : get_or (take v spans) k None ≡ Some s = get_or-take v spans k None lk ∙ any_default spans k None x inside ∙ some in
    let was = span_there v m k at P lk (take v spans) s row there in
    let now = span_ended v m k at P lk s b was start end in (
      puts,
      take-set-lt v spans k (Some b) lk ∙ row_ended v m k at P lk (take v spans) (Some b) row now ∙ ap (row_of v m) same,
    )
