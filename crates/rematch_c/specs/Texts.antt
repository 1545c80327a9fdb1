-- Notes and names in memory of C's.
use Rattle.std.specs.Prelude.{◌≡◌, ℕ, ◌+◌, List, [], ◌∷◌, ◌++◌, take}
use Rattle.rematch_c.specs.declared.short_text.ShortText.{ShortText}

-- its bytes are those of a text, the first 247 of a longer one, and a byte 0 stands behind them
abbrev pub IsText : ShortText → List ℕ → Type 0
IsText text said = take (text.length + 1) text.bytes ≡ take 247 said ++ 0 ∷ []
