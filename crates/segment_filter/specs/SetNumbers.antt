-- Numbers that are kept in few bytes.
use Rattle.std.specs.Prelude.{ℕ, List}
use Rattle.segment_filter.specs.declared.numbers.Numbers.{Numbers}
use Rattle.segment_filter.specs.declared.numbers.Numbers.TheVariants.{One, Two, Four}

-- the numbers, in their order
abbrev pub numbers_of : Numbers → List ℕ
numbers_of (One bytes) = bytes.items
numbers_of (Two pairs) = pairs.items
numbers_of (Four fours) = fours.items
