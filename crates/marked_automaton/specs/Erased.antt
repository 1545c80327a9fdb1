-- Blocks over some names from blocks over others, by the places of the names.
use Rattle.std.specs.Prelude.{◌≡◌, ℕ, ◌+◌, ◌-◌, ◌*◌, ◌^◌, ◌/◌, ◌%◌, List, [], ◌∷◌, length, slice_get, slice_index_or, Option, Some, None}
use Rattle.span_core.specs.Lists.{Has}
use Rattle.spanner_model.specs.Captures.{VarName}

-- the name stands there among the names; a name without a place is not among them
abbrev pub IsPlaceOf : List VarName → VarName → Option ℕ → Type 0
IsPlaceOf names x (Some j) = slice_get names j ≡ Some x
IsPlaceOf names x None = ¬ Has names x

-- the place of each kept name among all names
abbrev pub ArePlaces : List VarName → List VarName → List (Option ℕ) → Type 0
ArePlaces names keep places =
    (length places ≡ length keep)
    × ((k : ℕ) (x : VarName) → slice_get keep k ≡ Some x → IsPlaceOf names x (slice_index_or places k None))

-- the digit in base 4 of a block of so many variables that stands at a place
abbrev pub digit_at : ℕ → Option ℕ → ℕ → ℕ
digit_at all None m = 0
digit_at all (Some j) m = m / 2 ^ (2 * (all - (j + 1))) % 4

-- the digits that stand at these places, as a block
abbrev pub picked : ℕ → List (Option ℕ) → ℕ → ℕ
picked all [] m = 0
picked all (place ∷ places) m = digit_at all place m * 2 ^ (2 * length places) + picked all places m
