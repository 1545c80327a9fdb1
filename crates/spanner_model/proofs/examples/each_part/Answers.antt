use Rattle.spanner_model.proofs.ExampleLaws.{fits_byte, fits_cap, no_times, more_times, fits_rep, answers_free}
use Rattle.std.proofs.Common.{◌≡◌, ℕ, suc, ◌+◌, ◌≤◌, List, [], ◌∷◌, Some, refl, arith}
use Rattle.std.specs.Prelude.{slice_get, codes}
use Rattle.spanner_model.specs.Tree.{cap}
use Rattle.spanner_model.specs.Fit.{Fit, Times}
use Rattle.spanner_model.specs.Examples.{a, star, x, span, free, query, row1}
use Rattle.spanner_model.specs.Answers.{IsAnswerRow}
use Rattle.spanner_model.proofs.examples.each_part.Goals as goal

abbrev aa : List ℕ
aa = codes "aa"

one_more : (i count j : ℕ) → slice_get aa i ≡ Some 97 → Times (Fit a aa) count (i + 1) j [] → Times (Fit a aa) (suc count) i j []
one_more i count j at h = more_times (Fit a aa) count i (i + 1) j (fits_byte 97 aa i at) h

whole : (i bytes count : ℕ) → Times (Fit a aa) count i (i + bytes) [] → i + bytes ≤ 2 → IsAnswerRow (query (free (cap x (star a)))) aa (x ∷ []) (row1 (span i bytes))
whole i bytes count h le =
    answers_free (cap x (star a)) aa i (i + bytes) ((x, span i bytes) ∷ []) (x ∷ []) (fits_cap x (star a) aa i bytes [] (fits_rep a 0 count aa i (i + bytes) (omega arith) h) (λ n. n)) le

pub returns : goal.returns
returns c = (
  whole 0 0 0 (no_times (Fit a aa) 0) (omega arith),
  whole 0 1 1 (one_more 0 0 1 refl (no_times (Fit a aa) 1)) (omega arith),
  whole 0 2 2 (one_more 0 1 2 refl (one_more 1 0 2 refl (no_times (Fit a aa) 2))) (omega arith),
  whole 1 0 0 (no_times (Fit a aa) 1) (omega arith),
  whole 1 1 1 (one_more 1 0 2 refl (no_times (Fit a aa) 2)) (omega arith),
  whole 2 0 0 (no_times (Fit a aa) 2) (omega arith),
)
