-- What is no end of a line.
use Rattle.std.specs.Prelude.{ℕ, Bool, not, ◌==◌}

abbrev pub is_inside_line : ℕ → Bool
is_inside_line b = not (b == 10)
