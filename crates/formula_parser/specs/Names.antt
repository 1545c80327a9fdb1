-- The head of a capture.
use Rattle.std.specs.Prelude.{◌≡◌, ℕ, Bool, false, ◌&&◌, List, [], ◌∷◌, ◌++◌, IsTrue}
use Rattle.std.specs.List.{list_all}
use Rattle.span_core.specs.Names.{is_name_start, is_name_byte}

-- a letter or `_`, and then letters, digits and `_`
abbrev pub is_word : List ℕ → Bool
is_word [] = false
is_word (c ∷ t) = is_name_start c && list_all is_name_byte t

-- The text after a `!` is the head of a capture: a word and then a `{`. So the word is the longest run of its bytes.
abbrev pub HasHead : List ℕ → List ℕ → Type 0
HasHead t x = (rest : List ℕ) × (t ≡ x ++ 123 ∷ rest) × IsTrue (is_word x)

-- the head of a capture, from its `!` to its `{`
abbrev pub head_text : List ℕ → List ℕ
head_text x = 33 ∷ (x ++ 123 ∷ [])
