-- Texts of characters, and the formulas that fit them.
use Rattle.std.specs.Prelude.{◌≡◌, ℕ, ◌+◌, ◌<◌, ◌≤◌, ◌↔◌, List, [], ◌∷◌, Some, slice_get}
use Rattle.std.specs.Char.{IsScalar, encode_utf8}
use Rattle.span_core.specs.Intervals.{Covers}
use Rattle.spanner_model.specs.Tree.{Tree}
use Rattle.spanner_model.specs.Captures.{Captures}
use Rattle.spanner_model.specs.Fit.{Fit}

-- each number in the ranges is a character's
abbrev pub AreCharacters : List (ℕ × ℕ) → Type 0
AreCharacters ranges = (c : ℕ) → Covers ranges c → IsScalar c

-- the text is the UTF-8 of a character in the ranges
abbrev pub IsText : List (ℕ × ℕ) → List ℕ → Type 0
IsText ranges w = (c : ℕ) × Covers ranges c × (encode_utf8 c ≡ w)

-- the bytes of the document from i to j - 1 are the text
abbrev pub Stands : List ℕ → ℕ → List ℕ → ℕ → Type 0
Stands d i [] j = i ≡ j
Stands d i (b ∷ w) j = (slice_get d i ≡ Some b) × Stands d (i + 1) w j

-- the formula fits the parts of documents that are one of these texts, and no others, and it captures nothing
abbrev pub FitsTexts : Tree → (List ℕ → Type 0) → Type 0
FitsTexts f Texts =
    (d : List ℕ) (i j : ℕ) (m : Captures) → Fit f d i j m ↔ ((m ≡ []) × (w : List ℕ) × Texts w × Stands d i w j)

-- the number is in the ranges, from a first number on and below an end
abbrev pub IsPartOf : List (ℕ × ℕ) → ℕ → ℕ → ℕ → Type 0
IsPartOf ranges from end q = Covers ranges q × (from ≤ q) × (q < end)
