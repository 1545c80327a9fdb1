-- Rows that differ in the end of one span, one after another.
use Rattle.std.specs.Prelude.{◌≡◌, ℕ, ◌<◌, ◌≤◌, ◌-◌, ◌*◌, ◌^◌, List, [], ◌∷◌, ◌++◌, Option, Some, None, get_or, set, map}
use Rattle.std.specs.Int.Bits.{bit_or}
use Rattle.span_core.specs.declared.span.Span.{Span}
use Rattle.node_arena.specs.declared.row.Entry.{Entry}
use Rattle.node_arena.specs.declared.row.Entry.TheVariants.{Nothing}
use Rattle.node_arena.specs.Rows.{NamedRow, rows}
use Rattle.enumerator.specs.Enumeration.{SpanRow}
use Rattle.enumerator.specs.Rows.{Positions, put, row_of, row_under, span_between}
use Rattle.enumerator.specs.Waiting.{frame, IsWaiting}

-- the span with another end
abbrev pub span_to : Option Span → ℕ → Option Span
span_to None at = None
span_to (Some s) at = span_between s.start at

-- the row with another end of the span at a place
abbrev pub row_to : SpanRow → ℕ → ℕ → SpanRow
row_to row k at = set row k (span_to (get_or row k None) at)

-- the rows with these ends
abbrev pub rows_to : SpanRow → ℕ → List ℕ → List SpanRow
rows_to row k ends = map (row_to row k) ends

abbrev pub last_of : {A : Type 0} → A → List A → A
last_of x [] = x
last_of x (y ∷ ys) = last_of y ys

-- no end stands before the start
abbrev pub AreFrom : ℕ → List ℕ → Type 0
AreFrom start [] = Unit {0}
AreFrom start (at ∷ ats) = (start ≤ at) × AreFrom start ats

-- these are other ends of the span at a place, which is there if there are any
abbrev pub AreEnds : SpanRow → ℕ → List ℕ → Type 0
AreEnds row k [] = Unit {0}
AreEnds row k (at ∷ ats) = (s : Span) × (get_or row k None ≡ Some s) × AreFrom s.start (at ∷ ats)

-- these markers are the one that closes a variable of v whose span is there and starts here; half of its bit is told
pub record IsOpenEnd (v marks : ℕ) (spans : SpanRow) (half start : ℕ) : Type 0 where
  pub inside : half < v
  pub alone : marks ≡ 2 ^ (2 * half)
  pub span : Span
  pub there : get_or spans (v - 1 - half) None ≡ Some span
  pub starts : span.start ≡ start

-- of the rows of an entry under settled markers, the first are a block of these markers each, at these positions; `later` has the others
pub record AreTaken (store : List NamedRow) (v m marks start : ℕ) (entry : Entry) (ends : List ℕ) (last : ℕ) (later : Entry) : Type 0 where
  pub rows_are : (P : Positions) → map (row_under v m P) (rows store entry)
      ≡ map (λ at. row_of v (bit_or m marks) (put P (at, marks))) ends ++ map (row_under v m P) (rows store later)
  pub waits : (later ≡ Nothing → ⊥) → IsWaiting store v (frame m later)
  pub from : AreFrom start ends
  pub last_is : last_of start ends ≡ last
