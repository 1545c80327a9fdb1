-- A text inside: what leaves states that wait goes about in a region, which it leaves behind a text alone.
use Rattle.std.specs.Prelude.{◌≡◌, ◌⊎◌, ℕ, zero, suc, List, [], ◌∷◌, length, slice_index}
use Rattle.span_core.specs.Lists.{Has}
use Rattle.byte_runs.specs.Inner.{Inner}
use Rattle.marked_automaton.specs.declared.way.Way.{Way}
use Rattle.marked_automaton.specs.Automaton.{HasByte}
use Rattle.way_exits.specs.Waiting.{IsLoop, IsLooping}

-- the way takes this byte alone
abbrev pub TakesOnly : Way → ℕ → Type 0
TakesOnly y c = (b : ℕ) → HasByte y.bytes b → b ≡ c

-- from so many bytes of the text, read last, a way leads to so many: to none, or to one more, by the next byte of the text
abbrev pub Deepens : List ℕ → ℕ → Way → ℕ → Type 0
Deepens text from y to = (to ≡ 0) ⊎ ((to ≡ suc from) × TakesOnly y (slice_index text from))

-- it takes the last byte of the text
abbrev pub Closes : List ℕ → ℕ → Way → Type 0
Closes text from y = (suc from ≡ length text) × TakesOnly y (slice_index text from)

-- each state loops on each byte; another way from it leads into the region, and a way from the region stays in it or takes the last
-- byte of the text; `depth` tells of each state of the region how many bytes of the text stand before it
pub record IsRegion (ways : List Way) (states region : List ℕ) (depth : ℕ → ℕ) (text : List ℕ) : Type 0 where
  pub looping : (p : ℕ) → Has states p → IsLooping ways p
  pub enters : (y : Way) → Has ways y → Has states y.from → IsLoop y ⊎ (Has region y.to × Deepens text 0 y (depth y.to))
  pub stays : (y : Way) → Has ways y → Has region y.from → (Has region y.to × Deepens text (depth y.from) y (depth y.to)) ⊎ Closes text (depth y.from) y

-- no way takes the byte from the region, nor, but for a loop, from the states
pub record Kills (ways : List Way) (states region : List ℕ) (b : ℕ) : Type 0 where
  pub inside : (y : Way) → Has ways y → Has region y.from → HasByte y.bytes b → ⊥
  pub outside : (y : Way) → Has ways y → Has states y.from → HasByte y.bytes b → IsLoop y

-- there is such a region for the text, and its bytes kill
pub record WaitsInside (ways : List Way) (states : List ℕ) (inner : Inner) : Type 0 where
  pub region : List ℕ
  pub depth : ℕ → ℕ
  pub is : IsRegion ways states region depth inner.text
  pub kills : (b : ℕ) → HasByte inner.kills b → Kills ways states region b

-- the bytes that were read, the last first, begin with the first m of the text, the last of them first
abbrev pub IsTextBehind : List ℕ → ℕ → List ℕ → Type 0
IsTextBehind text zero before = Unit {0}
IsTextBehind text (suc m) [] = ⊥
IsTextBehind text (suc m) (b ∷ before) = (b ≡ slice_index text m) × IsTextBehind text m before

-- behind no byte of d the whole text was read
abbrev pub NoneEnds : List ℕ → List ℕ → List ℕ → Type 0
NoneEnds text before [] = Unit {0}
NoneEnds text before (b ∷ d) = (IsTextBehind text (length text) (b ∷ before) → ⊥) × NoneEnds text (b ∷ before) d

-- the last byte kills
abbrev pub LastKills : List Way → List ℕ → List ℕ → List ℕ → Type 0
LastKills ways states region [] = ⊥
LastKills ways states region (b ∷ []) = Kills ways states region b
LastKills ways states region (b ∷ c ∷ d) = LastKills ways states region (c ∷ d)
