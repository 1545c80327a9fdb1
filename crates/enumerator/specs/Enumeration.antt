-- What an enumerator is seen as, and the rows after a row.
use Rattle.std.specs.Prelude.{◌≡◌, ℕ, List, [], ◌∷◌, ◌++◌, Option}
use Rattle.span_core.specs.declared.span.Span.{Span}
use Rattle.span_core.specs.Blocks.{IsBlockList, IsRowOfBlocks}
use Rattle.span_core.specs.Order.{StandsBefore}
use Rattle.span_core.specs.Lists.{Has}
use Rattle.node_arena.specs.Words.{Word}

-- a row: the spans of the variables, and None for an absent one
abbrev pub SpanRow : Type 0
SpanRow = List (Option Span)

-- the rows over so many variables that lie in so many row cells: all, those to come, and the one that it stands at
pub record Enumeration : Type 0 where
  pub variables : ℕ
  pub cells : ℕ
  pub whole : List SpanRow
  pub rest : List SpanRow
  pub row : SpanRow

-- the word has the blocks of a row, each of them once, and no empty one
abbrev pub IsWordOfRow : ℕ → Word → Type 0
IsWordOfRow v w = IsBlockList w × ((row : SpanRow) × IsRowOfBlocks v w row)

-- row by row, these are the rows of the words
abbrev pub AreRowsOf : ℕ → List Word → List SpanRow → Type 0
AreRowsOf v [] [] = Unit {0}
AreRowsOf v [] (row ∷ rows) = ⊥
AreRowsOf v (w ∷ ws) [] = ⊥
AreRowsOf v (w ∷ ws) (row ∷ rows) = IsRowOfBlocks v w row × AreRowsOf v ws rows

-- of rows, those from some place on: exactly those that stand after a row, which need not be one of them
abbrev pub IsRestAfter : SpanRow → List SpanRow → List SpanRow → Type 0
IsRestAfter after rows rest =
    (front : List SpanRow) × (rows ≡ front ++ rest)
    × ((r : SpanRow) → Has front r → ¬ StandsBefore after r) × ((r : SpanRow) → Has rest r → StandsBefore after r)

-- each row stands before all later ones
abbrev pub AreInBlockOrder : List SpanRow → Type 0
AreInBlockOrder [] = Unit {0}
AreInBlockOrder (row ∷ rows) = ((later : SpanRow) → Has rows later → StandsBefore row later) × AreInBlockOrder rows
