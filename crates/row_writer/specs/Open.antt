-- Lines of which one number is open: rows that differ in the end of one span have the same bytes before it and behind it.
use Rattle.std.specs.Prelude.{◌≡◌, ℕ, zero, suc, ◌+◌, ◌-◌, ◌^◌, ◌<◌, ◌≤◌, List, [], ◌∷◌, ◌++◌, Option, Some, None, IfSome, length, take, slice_get, set, false}
use Rattle.std.specs.Fmt.{decimal}
use Rattle.span_core.specs.declared.span.Span.{Span}
use Rattle.row_writer.specs.Kept.{Head, Line, cells_text, kept_text, line_end, styled_cell}
use Rattle.row_writer.specs.KeptField.{opening, sign, span_rest}

-- what stands before a number, and what behind it
pub record Open : Type 0 where
  pub front : List ℕ
  pub back : List ℕ

abbrev pub open_with : List ℕ → List ℕ → Open
open_with front back = record { front = front; back = back }

-- the line with a number
abbrev pub open_text : Open → ℕ → List ℕ
open_text o number = o.front ++ (decimal number ++ o.back)

-- these bytes are the line with each of ten numbers from the first on, with the number's last digit in its place
pub record AreTens (o : Open) (first digit len : ℕ) (bytes : List ℕ) : Type 0 where
  pub within : digit < len
  pub few : len ≤ 122
  pub before : take (length o.front) bytes ≡ o.front
  pub lines : (number : ℕ) → number < 2 ^ 32 → first ≤ number → number < first + 10 → take len (set bytes digit (48 + (number - first))) ≡ open_text o number

-- for each end of the span at this place the line of the row is that with the number of the end
abbrev pub IsOpenAt : Line → List (Option Span) → ℕ → List ℕ → Open → Type 0
IsOpenAt kept row k doc o =
    (s b : Span) → slice_get row k ≡ Some (Some s) → b.start ≡ s.start → kept_text kept (set row k (Some b)) doc false ≡ open_text o b.end

-- the cells up to the end of the span at a place, which starts there, and those behind it
abbrev pub before_end : List ℕ → List Head → List (Option Span) → ℕ → ℕ → List ℕ
before_end doc [] row k start = []
before_end doc (head ∷ heads) [] k start = []
before_end doc (head ∷ heads) (span ∷ row) zero start = head.before ++ (opening head.style ++ (decimal start ++ sign head.style ∷ []))
before_end doc (head ∷ heads) (span ∷ row) (suc k) start = head.before ++ (styled_cell head.style doc false span ++ before_end doc heads row k start)

abbrev pub behind_end : List ℕ → List Head → List (Option Span) → ℕ → List ℕ
behind_end doc [] row k = []
behind_end doc (head ∷ heads) [] k = []
behind_end doc (head ∷ heads) (None ∷ row) zero = []
behind_end doc (head ∷ heads) (Some s ∷ row) zero = span_rest head.style doc false s ++ cells_text doc false heads row
behind_end doc (head ∷ heads) (span ∷ row) (suc k) = behind_end doc heads row k

-- the line of a row, open at the end of the span at this place
abbrev pub open_at : Line → List (Option Span) → ℕ → ℕ → List ℕ → Open
open_at kept row k start doc = open_with (before_end doc kept.heads row k start) (behind_end doc kept.heads row k ++ line_end kept.style)

-- the row is the last one with another end of the span at this place
pub record IsBeside (last row : List (Option Span)) (k : ℕ) (b : Span) : Type 0 where
  pub before : Span
  pub was : slice_get last k ≡ Some (Some before)
  pub start : b.start ≡ before.start
  pub now : slice_get row k ≡ Some (Some b)
  pub others : row ≡ set last k (Some b)

-- the last row has a place for each head, and the line that is open at a place is that of the last row with another end there
pub record IsRun (line : Line) (last : List (Option Span)) (place : ℕ) (open_line : Option Open) : Type 0 where
  pub lengths : length last ≡ length line.heads
  pub opened : IfSome open_line (λ o. IsOpenAt line last place [] o)

-- the line of the last row that is open at this place is, with another end, that of the row too: they are the same elsewhere, and the spans start alike
pub record IsAlike (last row : List (Option Span)) (open_place k : ℕ) (b : Span) : Type 0 where
  pub same_place : open_place ≡ k
  pub before : Span
  pub was : slice_get last k ≡ Some (Some before)
  pub start : b.start ≡ before.start
  pub others : (x : Option Span) → set row k x ≡ set last k x
