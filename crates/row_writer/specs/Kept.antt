-- Lines of which the fields are kept from one row to the next.
use Rattle.std.specs.Prelude.{ℕ, ◌+◌, ◌-◌, ◌*◌, if◌then◌else◌, Bool, List, [], ◌∷◌, ◌++◌, Option, None, Some}
use Rattle.serde_json.specs.Data.{string}
use Rattle.serde_json.specs.Written.{compact_text}
use Rattle.span_core.specs.declared.span.Span.{Span}
use Rattle.row_writer.specs.declared.style.Style.{Style}
use Rattle.row_writer.specs.declared.style.Style.TheVariants as style
use Rattle.row_writer.specs.Lines.{shown}
use Rattle.row_writer.specs.JsonLines.{json_cell}

-- what stands before a cell, and how the cell is written
pub record Head : Type 0 where
  pub before : List ℕ
  pub style : Style

abbrev pub head_with : List ℕ → Style → Head
head_with before s = record { before = before; style = s }

-- a field as it is kept: its head, the span that it took last, and whether it has that span's whole cell
pub record Field : Type 0 where
  pub head : Head
  pub span : Span
  pub whole : Bool

-- the heads of fields
abbrev pub heads_of : List Field → List Head
heads_of [] = []
heads_of (field ∷ fields) = field.head ∷ heads_of fields

-- a line as it is kept: how it is written, and the heads of its cells
pub record Line : Type 0 where
  pub style : Style
  pub heads : List Head

abbrev pub line_with : Style → List Head → Line
line_with s heads = record { style = s; heads = heads }

-- before the first cell of a spans line its name and `=`, before the others a space too
abbrev pub more_names : List (List ℕ) → List Head
more_names [] = []
more_names (name ∷ names) = head_with (32 ∷ (name ++ 61 ∷ [])) style.Plain ∷ more_names names

abbrev pub spans_heads : List (List ℕ) → List Head
spans_heads [] = []
spans_heads (name ∷ names) = head_with (name ++ 61 ∷ []) style.Plain ∷ more_names names

-- before the first cell of a table's line nothing, before the others a tab
abbrev pub more_tabs : List (List ℕ) → List Head
more_tabs [] = []
more_tabs (name ∷ names) = head_with (9 ∷ []) style.Plain ∷ more_tabs names

abbrev pub table_heads : List (List ℕ) → List Head
table_heads [] = []
table_heads (name ∷ names) = head_with [] style.Plain ∷ more_tabs names

-- before the first cell of a JSON line a brace, before the others a comma, and each has its name as a string and a colon
abbrev pub member_head : ℕ → List ℕ → Head
member_head sign name = head_with (sign ∷ (compact_text (string name) ++ 58 ∷ [])) style.Json

abbrev pub more_members : List (List ℕ) → List Head
more_members [] = []
more_members (name ∷ names) = member_head 44 name ∷ more_members names

abbrev pub json_heads : List (List ℕ) → List Head
json_heads [] = []
json_heads (name ∷ names) = member_head 123 name ∷ more_members names

-- the lines of the three forms over some variables
abbrev pub spans_kept : List (List ℕ) → Line
spans_kept names = line_with style.Plain (spans_heads names)

abbrev pub table_kept : List (List ℕ) → Line
table_kept names = line_with style.Plain (table_heads names)

abbrev pub json_kept : List (List ℕ) → Line
json_kept names = line_with style.Json (json_heads names)

-- a cell as it is shown, or the compact text of its value
abbrev pub styled_cell : Style → List ℕ → Bool → Option Span → List ℕ
styled_cell style.Plain doc texts span = shown doc texts span
styled_cell style.Json doc texts span = compact_text (json_cell doc texts span)

-- each cell behind its head
abbrev pub cells_text : List ℕ → Bool → List Head → List (Option Span) → List ℕ
cells_text doc texts (head ∷ heads) (span ∷ row) = head.before ++ (styled_cell head.style doc texts span ++ cells_text doc texts heads row)
cells_text doc texts [] row = []
cells_text doc texts (head ∷ heads) [] = []

-- the line without cells, and what stands behind the last one
abbrev pub empty_line : Style → List ℕ
empty_line style.Plain = 40 ∷ 41 ∷ 10 ∷ []
empty_line style.Json = 123 ∷ 125 ∷ 10 ∷ []

abbrev pub line_end : Style → List ℕ
line_end style.Plain = 10 ∷ []
line_end style.Json = 125 ∷ 10 ∷ []

-- the line of a row under these heads
abbrev pub text_under : Style → List Head → List (Option Span) → List ℕ → Bool → List ℕ
text_under s [] row doc texts = empty_line s
text_under s (head ∷ heads) row doc texts = cells_text doc texts (head ∷ heads) row ++ line_end s

abbrev pub kept_text : Line → List (Option Span) → List ℕ → Bool → List ℕ
kept_text kept row doc texts = text_under kept.style kept.heads row doc texts

-- the room of a line: 64 bytes for each field, its text where that is asked for, and 64 more
abbrev pub quote_room : Style → Bool → Option Span → ℕ
quote_room s texts None = 0
quote_room style.Plain texts (Some span) = if texts then 2 + 4 * (span.end - span.start) else 0
quote_room style.Json texts (Some span) = if texts then 3 + 5 * (span.end - span.start) else 0

abbrev pub line_room : Bool → List Head → List (Option Span) → ℕ
line_room texts (head ∷ heads) (span ∷ row) = (64 + quote_room head.style texts span) + line_room texts heads row
line_room texts [] row = 64
line_room texts (head ∷ heads) [] = 64
