-- Numbers that are kept up to a greatest one.
use Rattle.std.specs.Prelude.{◌≡◌, ℕ, ◌-◌, ◌^◌, min}
use Rattle.place_automaton.specs.Counts.{PlaceCounts}
use Rattle.place_automaton.specs.declared.numbers.Numbers.{Numbers}

abbrev pub capped : ℕ → ℕ
capped n = min n (2 ^ 64 - 1)

-- each number of the code is the one of the formula, or 2^64 - 1 where that is less; null is the formula's
pub record AreCapped (c : PlaceCounts) (n : Numbers) : Type 0 where
  pub null : n.null.items ≡ c.null
  pub first : n.first ≡ capped c.first
  pub last : n.last ≡ capped c.last
  pub follow : n.follow ≡ capped c.follow
