use Rattle.std.proofs.Common.{◌≡◌, ℕ, ◌+◌, ◌≤◌, List, [], ◌∷◌, Some, refl, inl, inr, sym, subst, arith}
use Rattle.std.specs.Prelude.{slice_get, codes}
use Rattle.spanner_model.specs.Tree.{Tree, cat, cat_end, cat_all, cap}
use Rattle.spanner_model.specs.Fit.{Fit}
use Rattle.spanner_model.specs.Answers.{IsAnswerRow}
use Rattle.spanner_model.specs.Examples.{a, b, c, x, y, span, free, query, row2}
use Rattle.spanner_model.proofs.ExampleLaws.{fits_byte, fits_end, fits_cat, fits_cap, answers_free, apart_none, none_apart, x_not_y}
use Rattle.spanner_model.proofs.examples.nested.Goals as goal

abbrev d : List ℕ
d = codes "abcabc"

abbrev inner : Tree
inner = cat_all (a ∷ (cap y b ∷ (c ∷ [])))

at_place : (i : ℕ) → slice_get d i ≡ Some 97 → slice_get d (i + 1) ≡ Some 98 → slice_get d (i + 1 + 1) ≡ Some 99 → i + 3 ≤ 6 →
    IsAnswerRow (query (free (cap x inner))) d (x ∷ (y ∷ [])) (row2 (span i 3) (span (i + 1) 1))
at_place i at_a at_b at_c le =
    let t = span (i + 1) 1 in
    let three : i + 1 + 1 + 1 ≡ i + 3 = omega arith in
    let last = fits_cat c cat_end d (i + 1 + 1) (i + 1 + 1 + 1) (i + 1 + 1 + 1) [] [] (fits_byte 99 d (i + 1 + 1) at_c) (fits_end d (i + 1 + 1 + 1)) (none_apart []) in
    let later = fits_cat (cap y b) (cat c cat_end) d (i + 1) (i + 1 + 1) (i + 1 + 1 + 1) ((y, t) ∷ []) []
    (fits_cap y b d (i + 1) 1 [] (fits_byte 98 d (i + 1) at_b) (λ n. n)) last (apart_none ((y, t) ∷ [])) in
    let all = fits_cat a (cat (cap y b) (cat c cat_end)) d i (i + 1) (i + 1 + 1 + 1) [] ((y, t) ∷ []) (fits_byte 97 d i at_a) later (none_apart ((y, t) ∷ [])) in
    let fit = fits_cap x inner d i 3 ((y, t) ∷ []) (subst (λ j. Fit inner d i j ((y, t) ∷ [])) three all) (λ h. elim h [ inl e ↦ x_not_y (sym e) | inr n ↦ n ]) in
    answers_free (cap x inner) d i (i + 3) ((x, span i 3) ∷ ((y, t) ∷ [])) (x ∷ (y ∷ [])) fit le

pub returns : goal.returns
returns args = (at_place 0 refl refl refl (omega arith), at_place 3 refl refl refl (omega arith))
