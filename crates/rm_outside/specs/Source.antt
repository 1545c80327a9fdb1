-- The lines of a source, where its bytes are told.
use Rattle.std.specs.Prelude.{◌≡◌, ◌≢◌, ◌<◌, ◌≤◌, ℕ, Bool, true, false, List, [], ◌∷◌, ◌++◌, length, drop, Option, Some, None, Result, Ok, Err}
use Rattle.rm_outside.specs.declared.source.LineFault.{LineFault}
use Rattle.rm_outside.specs.declared.source.LineFault.TheVariants.{Failed, TooLong, OutOfMemory}

-- no line ends inside
abbrev pub HasNoEnd : List ℕ → Type 0
HasNoEnd [] = Unit {0}
HasNoEnd (b ∷ bytes) = (b ≢ 10) × HasNoEnd bytes

-- The next line of these bytes, and what is left behind it: it ends at the next byte 0A, which is no part of it, or where there is none
-- at the end of the bytes. There is one exactly where bytes are left.
pub data NextLine : List ℕ → List ℕ → List ℕ → Type 0 where
  ended : {line left : List ℕ} → HasNoEnd line → NextLine (line ++ 10 ∷ left) line left
  last : {line : List ℕ} → HasNoEnd line → line ≢ [] → NextLine line line []

-- the same, where the bytes are told
abbrev pub TakesLine : Option (List ℕ) → List ℕ → Option (List ℕ) → Type 0
TakesLine None line new = Unit {0}
TakesLine (Some left) line None = ⊥
TakesLine (Some left) line (Some rest) = NextLine left line rest

-- no byte is left, where they are told
abbrev pub IsSpent : Option (List ℕ) → Type 0
IsSpent None = Unit {0}
IsSpent (Some left) = left ≡ []

-- the next line has more than limit bytes, where they are told
abbrev pub IsNextLong : ℕ → Option (List ℕ) → Type 0
IsNextLong limit None = Unit {0}
IsNextLong limit (Some left) = (line : List ℕ) × (rest : List ℕ) × NextLine left line rest × (limit < length line)

-- what asking for a line did: it took the next one, which it appended; or none is left, and nothing was appended; or it was refused
abbrev pub LineTaken : ℕ → Option (List ℕ) → Option (List ℕ) → List ℕ → List ℕ → Type 0
LineTaken limit old new before after = (line : List ℕ) × (length line ≤ limit) × (after ≡ before ++ line) × TakesLine old line new

abbrev pub AsksLine : ℕ → Option (List ℕ) → Option (List ℕ) → List ℕ → List ℕ → Result Bool LineFault → Type 0
AsksLine limit old new before after (Ok true) = LineTaken limit old new before after
AsksLine limit old new before after (Ok false) = IsSpent old × IsSpent new × (after ≡ before)
AsksLine limit old new before after (Err Failed) = after ≡ before
AsksLine limit old new before after (Err (TooLong seen)) = (limit < seen) × IsNextLong limit old × (after ≡ before)
AsksLine limit old new before after (Err OutOfMemory) = after ≡ before

-- these are the next lines, in order
abbrev pub TakesLines : Option (List ℕ) → List (List ℕ) → Option (List ℕ) → Type 0
TakesLines old [] new = new ≡ old
TakesLines old (line ∷ lines) new = (mid : Option (List ℕ)) × TakesLine old line mid × TakesLines mid lines new

-- what asking for the first line of bytes did: it tells how many bytes the line takes with its end, where there is one
abbrev pub AsksFirst : ℕ → List ℕ → List ℕ → List ℕ → Result (Option ℕ) LineFault → Type 0
AsksFirst limit left before after (Ok (Some taken)) =
    (line : List ℕ) × (length line ≤ limit) × (after ≡ before ++ line) × NextLine left line (drop taken left)
AsksFirst limit left before after (Ok None) = (left ≡ []) × (after ≡ before)
AsksFirst limit left before after (Err Failed) = after ≡ before
AsksFirst limit left before after (Err (TooLong seen)) = (limit < seen) × IsNextLong limit (Some left) × (after ≡ before)
AsksFirst limit left before after (Err OutOfMemory) = after ≡ before
