-- The words of the program that serves.
use Rattle.std.specs.Prelude.{ℕ, List, [], ◌∷◌, codes}

-- the one word with which requests are served
abbrev pub serving_words : List (List ℕ)
serving_words = codes "--serve" ∷ []
