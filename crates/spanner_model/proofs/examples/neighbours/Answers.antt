use Rattle.std.proofs.Common.{◌≡◌, ℕ, suc, ◌+◌, ◌≤◌, List, [], ◌∷◌, Some, refl, arith}
use Rattle.std.specs.Prelude.{slice_get, codes}
use Rattle.spanner_model.specs.Tree.{cat, cat_end, cat_all, cap}
use Rattle.spanner_model.specs.Fit.{Fit, Times}
use Rattle.spanner_model.specs.Answers.{IsAnswerRow}
use Rattle.spanner_model.specs.Examples.{a, b, plus, x, y, span, free, query, row2}
use Rattle.spanner_model.proofs.ExampleLaws.{fits_byte, fits_end, fits_cat, fits_cap, no_times, more_times, fits_rep, answers_free, apart_none, apart_xy}
use Rattle.spanner_model.proofs.examples.neighbours.Goals as goal

abbrev d : List ℕ
d = codes "aabb"

one_a : (i count j : ℕ) → slice_get d i ≡ Some 97 → Times (Fit a d) count (i + 1) j [] → Times (Fit a d) (suc count) i j []
one_a i count j at h = more_times (Fit a d) count i (i + 1) j (fits_byte 97 d i at) h

one_b : (i count j : ℕ) → slice_get d i ≡ Some 98 → Times (Fit b d) count (i + 1) j [] → Times (Fit b d) (suc count) i j []
one_b i count j at h = more_times (Fit b d) count i (i + 1) j (fits_byte 98 d i at) h

both_a : Times (Fit a d) 2 0 2 []
both_a = one_a 0 1 2 refl (one_a 1 0 2 refl (no_times (Fit a d) 2))

last_a : Times (Fit a d) 1 1 2 []
last_a = one_a 1 0 2 refl (no_times (Fit a d) 2)

whole : (i m n count more : ℕ) → Times (Fit a d) count i (i + m) [] → Times (Fit b d) more (i + m) (i + m + n) [] → 1 ≤ count → 1 ≤ more → i + m + n ≤ 4 →
    IsAnswerRow (query (free (cat_all (cap x (plus a) ∷ (cap y (plus b) ∷ []))))) d (x ∷ (y ∷ [])) (row2 (span i m) (span (i + m) n))
whole i m n count more h g some_a some_b le =
    let s = span i m in
    let t = span (i + m) n in
    let right = fits_cat (cap y (plus b)) cat_end d (i + m) (i + m + n) (i + m + n) ((y, t) ∷ []) []
    (fits_cap y (plus b) d (i + m) n [] (fits_rep b 1 more d (i + m) (i + m + n) some_b g) (λ no_y. no_y)) (fits_end d (i + m + n)) (apart_none ((y, t) ∷ [])) in
    answers_free (cat_all (cap x (plus a) ∷ (cap y (plus b) ∷ []))) d i (i + m + n) ((x, s) ∷ ((y, t) ∷ [])) (x ∷ (y ∷ []))
    (fits_cat (cap x (plus a)) (cat (cap y (plus b)) cat_end) d i (i + m) (i + m + n) ((x, s) ∷ []) ((y, t) ∷ [])
    (fits_cap x (plus a) d i m [] (fits_rep a 1 count d i (i + m) some_a h) (λ no_x. no_x)) right (apart_xy s t)) le

pub returns : goal.returns
returns args = (
  whole 0 2 1 2 1 (both_a) (one_b 2 0 3 refl (no_times (Fit b d) 3)) (omega arith) (omega arith) (omega arith),
  whole 0 2 2 2 2 (both_a) (one_b 2 1 4 refl (one_b 3 0 4 refl (no_times (Fit b d) 4))) (omega arith) (omega arith) (omega arith),
  whole 1 1 1 1 1 (last_a) (one_b 2 0 3 refl (no_times (Fit b d) 3)) (omega arith) (omega arith) (omega arith),
  whole 1 1 2 1 2 (last_a) (one_b 2 1 4 refl (one_b 3 0 4 refl (no_times (Fit b d) 4))) (omega arith) (omega arith) (omega arith),
)
