-- The lines of a row with each of some ends of one span are those of the line that is open there.
use Rattle.std.proofs.Common.{◌≡◌, ℕ, ◌<◌, ◌≤◌, Bool, true, false, List, [], ◌∷◌, ◌++◌, length, get_or, set, slice_get, Option, Some, None, inl, inr, refl, sym, ap, ap₂, ◌∙◌, arith, subst, get_or-set_same, get_or-set_other, length-set}
use Rattle.std.specs.Prelude.{nat_le, MatchOption}
use Rattle.std.specs.List.{flat_map}
use Rattle.std.proofs.lemmas.Bool.{cases_order, le-leb, true≢false}
use Rattle.std.proofs.lemmas.List.{ext_get_or}
use Rattle.std.proofs.lemmas.List.Concat.{flat_map-cons}
use Rattle.std.proofs.lemmas.Option.{get_or_from_slice_get}
use Rattle.span_core.specs.declared.span.Span.{Span}
use Rattle.enumerator.specs.Rows.{span_between, span_if}
use Rattle.enumerator.specs.Ends.{AreFrom, row_to, span_to}
use Rattle.row_writer.specs.Kept.{Line, kept_text}
use Rattle.row_writer.specs.Open.{IsAlike, IsOpenAt, Open, open_text}
use Rattle.row_writer.proofs.LineParts.{doc_free}
use Rattle.row_writer.proofs.RowsBeside.{read_at}

-- the span between two places in order
pub record IsBetween (x : Option Span) (start at : ℕ) : Type 0 where
  pub span : Span
  pub is : x ≡ Some span
  pub start_is : span.start ≡ start
  pub end_is : span.end ≡ at

between_if : (start at : ℕ) (b : Bool) (g : nat_le start at ≡ b) → start ≤ at → IsBetween (span_if start at b g) start at
between_if start at true g l = record { span = _; is = refl; start_is = refl; end_is = refl }
between_if start at false g l = absurd (true≢false (sym (le-leb start at l) ∙ g))

pub between : (start at : ℕ) → start ≤ at → IsBetween (span_between start at) start at
between start at l = between_if start at (nat_le start at) refl l

module _ (kept : Line) (last row : List (Option Span)) (open_place k : ℕ) (doc : List ℕ) (o : Open) (s : Span)
    (alike : IsAlike last row open_place k s) (opened : IsOpenAt kept last open_place [] o) (there : slice_get row k ≡ Some (Some s)) where
  pub end_opened : (at : ℕ) → s.start ≤ at → kept_text kept (row_to row k at) doc false ≡ open_text o at
  end_opened at l =
      let b = between s.start at l in
      let here : IsOpenAt kept last k [] o = subst (λ j. IsOpenAt kept last j [] o) alike.same_place opened in
      ap (λ (x : Option Span). kept_text kept (set row k (span_to x at)) doc false) (get_or_from_slice_get row k (Some s) None there)
      ∙ ap (λ (x : Option Span). kept_text kept (set row k x) doc false) b.is
      ∙ ap (λ (r : List (Option Span)). kept_text kept r doc false) (alike.others (Some b.span))
      ∙ doc_free kept (set last k (Some b.span)) doc
      ∙ here alike.before b.span alike.was (b.start_is ∙ alike.start)
      ∙ ap (open_text o) b.end_is

  pub ends_opened : (ends : List ℕ) → AreFrom s.start ends → flat_map (λ at. kept_text kept (row_to row k at) doc false) ends ≡ flat_map (open_text o) ends
  ends_opened [] from = refl
  ends_opened (at ∷ ends) from =
      let text : ℕ → List ℕ = λ at. kept_text kept (row_to row k at) doc false in
      flat_map-cons text at ends ∙ ap₂ (λ (xs ys : List ℕ). xs ++ ys) (end_opened at from.0) (ends_opened ends from.1) ∙ sym (flat_map-cons (open_text o) at ends)

-- rows that are the same at all places but one are the same with another span there
pub alike_with : (last row : List (Option Span)) (k : ℕ) (x : Option Span) → length row ≡ length last
    → ((j : ℕ) → j < k → slice_get last j ≡ slice_get row j) → ((j : ℕ) → k < j → j < length row → slice_get last j ≡ slice_get row j) → set row k x ≡ set last k x
alike_with last row k x len before behind =
    let same : length (set row k x) ≡ length (set last k x) = length-set row k x ∙ len ∙ sym (length-set last k x) in
    ext_get_or None (set row k x) (set last k x) same at
  where
    other : (i : ℕ) → (i ≡ k → ⊥) → slice_get last i ≡ slice_get row i → get_or (set row k x) i None ≡ get_or (set last k x) i None
    other i ne e = get_or-set_other row k i x None ne ∙ sym (read_at last row i e) ∙ sym (get_or-set_other last k i x None ne)

    at : (i : ℕ) → i < length (set row k x) → get_or (set row k x) i None ≡ get_or (set last k x) i None
    at i m = elim (cases_order i k) [
      | inl e ↦
          ap (λ j. get_or (set row k x) j None) e
          ∙ get_or-set_same row k x None (omega (arith, e, m, length-set row k x))
          ∙ sym (get_or-set_same last k x None (omega (arith, e, m, length-set row k x, len))) ∙ ap (λ j. get_or (set last k x) j None) (sym e)
      | inr o ↦ elim o [
        | inl lt ↦ other i (λ e. omega (arith, e, lt)) (before i lt)
        | inr gt ↦ other i (λ e. omega (arith, e, gt)) (behind i gt (omega (arith, m, length-set row k x)))
      ]
    ]

-- an answer that is passed on, told of an earlier buffer
pub told_before : {P Q : Type 0} {R S : ℕ → Type 0} (o : Option ℕ) → MatchOption o P R → (P → Q) → ((e : ℕ) → R e → S e) → MatchOption o Q S
told_before None h f g = f h
told_before (Some e) h f g = g e h
