-- A cursor fits the document, or is refused.
use Rattle.std.proofs.Common.{◌≡◌, ◌≢◌, ℕ, ◌<◌, ◌≤◌, true, [], ◌∷◌, length, Option, Some, None, IfSome, IsTrue, inl, inr, refl, sym, ap, ◌∙◌, subst, arith}
use Rattle.std.specs.Option.{MatchOption}
use Rattle.std.specs.List.{list_all}
use Rattle.std.proofs.lemmas.Bool.{and_parts, cases_eq}
use Rattle.span_core.specs.declared.kept.Kept.{Kept}
use Rattle.cell_text.specs.Cells.{ends_by}
use Rattle.spanner_model.specs.Answers.{SpanRow}
use Rattle.spanner_engine.specs.Begun.{EndsPast, IsPast, KeepsOther, row_kept}
use Rattle.rematch_program.specs.Pages.{CursorFits, HasWidth, is_inside}
use Rattle.rematch_program.proofs.Inside.{span_inside}

-- a row that is inside has no span that ends past
never_both : (n : ℕ) (row : SpanRow) → is_inside n row ≡ true → ¬ EndsPast n row
never_both n [] inside (s, has, past) = has
never_both n (o ∷ row) inside (s, inl e, past) =
    let here : ends_by n (Some s) ≡ true = ap (ends_by n) (sym e) ∙ (and_parts (ends_by n o) (list_all (ends_by n) row) inside).0 in
    let le : s.end ≤ n = grind (arith, here) in
    omega (arith, le, past)
never_both n (o ∷ row) inside (s, inr has, past) = never_both n row (and_parts (ends_by n o) (list_all (ends_by n) row) inside).1 (s, has, past)

-- and a row with none is inside
none_past : (n : ℕ) (row : SpanRow) → ¬ EndsPast n row → is_inside n row ≡ true
none_past n [] never = refl
none_past n (o ∷ row) never =
    let here : ends_by n o ≡ true = span_inside n o (λ s e. let lt : ¬ (n < s.end) = λ past. never (s, inl e, past) in omega (arith, lt)) in
    let later : is_inside n row ≡ true = none_past n row (λ h. never (h.0, inr h.1, h.2)) in
    simp (here, later) refl

fits_of : (n : ℕ) (row : SpanRow) (length : Option ℕ) → ((other : ℕ) → length ≡ Some other → ¬ (other ≢ n)) → (length ≡ None → ¬ EndsPast n row) →
    MatchOption length (IsTrue (is_inside n row)) (λ l. l ≡ n)
fits_of n row None same never = none_past n row (never refl)
fits_of n row (Some other) same never = elim (cases_eq other n) [ inl e ↦ e | inr ne ↦ absurd (same other refl ne) ]

-- a cursor that is not refused fits
pub fits_unless : (n : ℕ) (after : Option Kept) → ((other : ℕ) → ¬ KeepsOther n after other) → ¬ IsPast n after → CursorFits n after
fits_unless n None same never = tt
fits_unless n (Some kept) same never = fits_of n kept.row kept.length (λ other is ne. same other (is, ne)) (λ none past. never (none, past))

-- and one that fits is not refused
pub fits_no_other : (n : ℕ) (after : Option Kept) (other : ℕ) → CursorFits n after → ¬ KeepsOther n after other
fits_no_other n None other fits keeps = keeps
fits_no_other n (Some kept) other fits keeps =
    let P : Option ℕ → Type 0 = λ o. MatchOption o (IsTrue (is_inside n kept.row)) (λ l. l ≡ n) in
    keeps.1 (subst P keeps.0 fits)

pub fits_not_past : (n : ℕ) (after : Option Kept) → CursorFits n after → ¬ IsPast n after
fits_not_past n None fits past = past
fits_not_past n (Some kept) fits past =
    let P : Option ℕ → Type 0 = λ o. MatchOption o (IsTrue (is_inside n kept.row)) (λ l. l ≡ n) in
    never_both n kept.row (subst P past.0 fits) past.1

-- the width that the row of a cursor has
pub wide_enough : (v : ℕ) (after : Option Kept) → HasWidth v (row_kept after) → IfSome after (λ kept. length kept.row ≡ v)
wide_enough v None width = tt
wide_enough v (Some kept) width = width
