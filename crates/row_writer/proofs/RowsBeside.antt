-- Rows that differ in the end of one span.
use Rattle.std.proofs.Common.{◌≡◌, ℕ, ◌+◌, ◌<◌, ◌≤◌, List, length, get_or, set, slice_get, Option, Some, None, inl, inr, refl, sym, ap, ◌∙◌, arith, get_or-set_same, get_or-set_other, length-set}
use Rattle.std.specs.Prelude.{unwrap_or}
use Rattle.std.proofs.lemmas.Bool.{cases_order}
use Rattle.std.proofs.lemmas.List.{ext_get_or}
use Rattle.std.proofs.lemmas.Option.{get_or_from_slice_get, slice_get-get_or, slice_get_read, unwrap_or-slice_get}
use Rattle.span_core.specs.declared.span.Span.{Span}

module _ {X : Type 0} where
  -- what is read of both at a place is the same
  pub read_same : (xs ys : List X) (k : ℕ) (x y : X) → k < length xs → k < length ys → x ≡ get_or xs k x → y ≡ get_or ys k y → x ≡ y → slice_get xs k ≡ slice_get ys k
  read_same xs ys k x y l m a b e =
      slice_get_read xs (length xs) k x refl l a ∙ ap Some e ∙ sym (slice_get_read ys (length ys) k y refl m b)

  -- one place more is the same
  pub same_more : (xs ys : List X) (from k j : ℕ) → ((i : ℕ) → from ≤ i → i < k → slice_get xs i ≡ slice_get ys i) → slice_get xs k ≡ slice_get ys k
      → from ≤ j → j < k + 1 → slice_get xs j ≡ slice_get ys j
  same_more xs ys from k j before now low l = elim (cases_order j k) [
    | inl e ↦ ap (slice_get xs) e ∙ now ∙ sym (ap (slice_get ys) e)
    | inr o ↦ elim o [ inl m ↦ before j low m | inr m ↦ absurd (omega (arith, l, m)) ]
  ]

pub found : (xs : List (Option Span)) (k : ℕ) (s : Span) (d : Option Span) → k < length xs → get_or xs k d ≡ Some s → slice_get xs k ≡ Some (Some s)
found xs k s d l is = slice_get-get_or xs k d l ∙ ap Some is

pub read_at : (xs ys : List (Option Span)) (i : ℕ) → slice_get xs i ≡ slice_get ys i → get_or xs i None ≡ get_or ys i None
read_at xs ys i e = sym (unwrap_or-slice_get xs i None) ∙ ap (λ (o : Option (Option Span)). unwrap_or o None) e ∙ unwrap_or-slice_get ys i None

-- a row that is the same at all places but one
pub same_but_at : (last row : List (Option Span)) (k : ℕ) (x : Option Span) → length row ≡ length last → k < length row → slice_get row k ≡ Some x
    → ((j : ℕ) → j < k → slice_get last j ≡ slice_get row j) → ((j : ℕ) → k < j → j < length row → slice_get last j ≡ slice_get row j) → row ≡ set last k x
same_but_at last row k x len l now before behind = ext_get_or None row (set last k x) (len ∙ sym (length-set last k x)) at
  where
    inside : k < length last
    inside = omega (arith, len, l)

    other : (i : ℕ) → (i ≡ k → ⊥) → slice_get last i ≡ slice_get row i → get_or row i None ≡ get_or (set last k x) i None
    other i ne e = sym (read_at last row i e) ∙ sym (get_or-set_other last k i x None ne)

    at : (i : ℕ) → i < length row → get_or row i None ≡ get_or (set last k x) i None
    at i m = elim (cases_order i k) [
      | inl e ↦
          ap (λ j. get_or row j None) e ∙ get_or_from_slice_get row k x None now
          ∙ sym (get_or-set_same last k x None inside) ∙ ap (λ j. get_or (set last k x) j None) (sym e)
      | inr o ↦ elim o [
        | inl lt ↦ other i (λ e. omega (arith, e, lt)) (before i lt)
        | inr gt ↦ other i (λ e. omega (arith, e, gt)) (behind i gt m)
      ]
    ]
