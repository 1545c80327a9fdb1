-- How a field is kept.
use Rattle.std.specs.Prelude.{◌≡◌, ◌≤◌, ◌++◌, ◌∷◌, [], ℕ, List, Bool, true, Option, None, Some, length, take, IsTrue}
use Rattle.std.specs.Fmt.{decimal}
use Rattle.serde_json.specs.Data.{null}
use Rattle.serde_json.specs.Written.{compact_text, items_text}
use Rattle.span_core.specs.declared.span.Span.{Span}
use Rattle.row_writer.specs.declared.style.Style.{Style}
use Rattle.row_writer.specs.declared.style.Style.TheVariants as style
use Rattle.row_writer.specs.JsonLines.{json_form}
use Rattle.row_writer.specs.Lines.{text_of}
use Rattle.row_writer.specs.Kept.{Field, head_with}
use Rattle.row_writer.specs.declared.field.Field.TheInside.{Inside}

abbrev pub field_of : Inside → Field
field_of f = record { head = head_with (take f.head f.bytes) f.style; span = f.span; whole = f.whole }

-- what stands before the numbers of a span, and between them
abbrev pub opening : Style → List ℕ
opening style.Plain = []
opening style.Json = 91 ∷ []

abbrev pub sign : Style → ℕ
sign style.Plain = 45
sign style.Json = 44

abbrev pub numbers : Style → Span → List ℕ
numbers s span = decimal span.start ++ sign s ∷ decimal span.end

-- a cell up to its second number, and what stands behind that; an absent cell has one part
abbrev pub absent : Style → List ℕ
absent style.Plain = 45 ∷ []
absent style.Json = compact_text null

abbrev pub cell_front : Style → Option Span → List ℕ
cell_front s None = absent s
cell_front s (Some span) = opening s ++ numbers s span

abbrev pub span_rest : Style → List ℕ → Bool → Span → List ℕ
span_rest style.Plain doc texts span = text_of doc texts (Some span)
span_rest style.Json doc texts span = items_text true (json_form doc texts span)

-- the bytes begin with the head and what opens a span, and then have the span's start and the sign, and end in the middle; or they
-- have the whole span
pub record IsFieldKept (f : Inside) : Type 0 where
  pub short : f.head ≤ 36
  pub near : f.first ≤ 37
  pub middle : f.middle ≤ 48
  pub few : f.len ≤ 58
  pub opened : f.head ≤ f.first
  pub before : f.first ≤ f.middle
  pub room : length f.bytes ≡ 64
  pub front : take f.first f.bytes ≡ take f.head f.bytes ++ opening f.style
  pub half : take f.middle f.bytes ≡ take f.first f.bytes ++ (decimal f.span.start ++ sign f.style ∷ [])
  pub all : IsTrue f.whole → take f.len f.bytes ≡ take f.first f.bytes ++ numbers f.style f.span
