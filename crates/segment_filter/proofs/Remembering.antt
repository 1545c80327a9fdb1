-- What is remembered of sets that were compared.
use Rattle.std.proofs.Common.{ℕ, zero, suc, List, [], ◌∷◌, ◌++◌, Option, None, arith}
use Rattle.segment_filter.specs.declared.comparing.Compared.{Compared}
use Rattle.segment_filter.specs.Remembered.{AreRemembered}

-- one place more, where nothing is
pub one_more_place : (most : ℕ) (sets others : List (List ℕ)) (pairs : List (Option Compared)) → AreRemembered most sets others pairs →
    AreRemembered most sets others (pairs ++ None ∷ [])
one_more_place most sets others [] h zero x l = tt
one_more_place most sets others [] h (suc k) x l = absurd (omega (arith, l))
one_more_place most sets others (y ∷ pairs) h zero x l = h zero x (omega arith)
one_more_place most sets others (y ∷ pairs) h (suc k) x l =
    one_more_place most sets others pairs (λ j z m. h (suc j) z (omega (arith, m))) k x (omega (arith, l))
