use Rattle.std.proofs.Common.{◌≡◌, ℕ, ◌+◌, ◌≤◌, List, [], ◌∷◌, Some, refl, arith}
use Rattle.std.specs.Prelude.{slice_get, codes}
use Rattle.spanner_model.specs.Tree.{Tree, cat, cat_end, cat_all, alt_all, cap}
use Rattle.spanner_model.specs.Fit.{Fit}
use Rattle.spanner_model.specs.Answers.{IsAnswerRow}
use Rattle.spanner_model.specs.Examples.{a, star, x, span, free, query, row1}
use Rattle.spanner_model.proofs.ExampleLaws.{fits_byte, fits_end, fits_cat, fits_cap, no_times, fits_rep, answers_free, apart_none, none_apart}
use Rattle.spanner_model.proofs.examples.many_ways.Goals as goal

abbrev d : List ℕ
d = codes "aaa"

abbrev g : Tree
g = alt_all (a ∷ (cat_all (a ∷ (a ∷ [])) ∷ []))

abbrev f : Tree
f = cat_all (cap x a ∷ (star g ∷ []))

at_place : (i : ℕ) → slice_get d i ≡ Some 97 → i + 1 ≤ 3 → IsAnswerRow (query (free f)) d (x ∷ []) (row1 (span i 1))
at_place i at le =
    answers_free f d i (i + 1) ((x, span i 1) ∷ []) (x ∷ [])
    (fits_cat (cap x a) (cat (star g) cat_end) d i (i + 1) (i + 1) ((x, span i 1) ∷ []) [] (fits_cap x a d i 1 [] (fits_byte 97 d i at) (λ n. n))
    (fits_cat (star g) cat_end d (i + 1) (i + 1) (i + 1) [] [] (fits_rep g 0 0 d (i + 1) (i + 1) (omega arith) (no_times (Fit g d) (i + 1))) (fits_end d (i + 1)) (none_apart []))
    (apart_none ((x, span i 1) ∷ []))) le

pub returns : goal.returns
returns args = (at_place 0 refl (omega arith), at_place 1 refl (omega arith), at_place 2 refl (omega arith))
