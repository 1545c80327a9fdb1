-- The standard input.
use Rattle.std.specs.Prelude.{ℕ, List, [], ◌∷◌}

-- its name, `-`
abbrev pub input_name : List ℕ
input_name = 45 ∷ []
