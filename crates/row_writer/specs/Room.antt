-- The most bytes that a line may take.
use Rattle.std.specs.Prelude.{ℕ, ◌+◌, ◌-◌, ◌*◌, if◌then◌else◌, Bool, List, [], ◌∷◌, Option, None, Some}
use Rattle.span_core.specs.declared.span.Span.{Span}
use Rattle.span_core.specs.declared.TheConstants.{MOST_NAME_BYTES}
use Rattle.cell_text.specs.declared.TheConstants.{MOST_SPAN_BYTES}

-- a cell, and its text in quotes where that is asked for: a byte's text form has four bytes at most
abbrev pub shown_room : Bool → Option Span → ℕ
shown_room texts None = MOST_SPAN_BYTES
shown_room texts (Some span) = if texts then MOST_SPAN_BYTES + 2 + 4 * (span.end - span.start) else MOST_SPAN_BYTES

-- the fields: each has a name, a sign, a cell, and a separator
abbrev pub fields_room : Bool → List (Option Span) → ℕ
fields_room texts [] = 0
fields_room texts (span ∷ row) = (MOST_NAME_BYTES + 2 + shown_room texts span) + fields_room texts row
