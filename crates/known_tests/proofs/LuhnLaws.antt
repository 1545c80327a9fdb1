-- The sum of no digit.
use Rattle.std.proofs.Common.{arith, ◌≡◌, ℕ, Bool, List, [], ◌∷◌, length, reverse, refl}
use Rattle.known_tests.specs.Relations.{luhn_sum}

pub none_left : (double : Bool) (bytes : List ℕ) → length bytes ≡ 0 → luhn_sum double (reverse bytes) ≡ 0
none_left double [] none = refl
none_left double (b ∷ bytes) none = absurd (omega (arith, none))
