-- Lines of a reader, of which some bytes are read ahead.
use Rattle.std.specs.Prelude.{◌≡◌, ℕ, ◌-◌, ◌<◌, ◌≤◌, Bool, true, false, List, [], ◌∷◌, ◌++◌, length, take, drop, Option, None, Some}
use Rattle.std.specs.Io.KnownBytes.{Consumes, IsAtEnd, Keeps, prepend_known}
use Rattle.rm_outside.specs.Source.{HasNoEnd, IsNextLong}
use Rattle.rm_outside.specs.declared.line_input.Part.{Part}
use Rattle.rm_outside.specs.declared.source.LineFault.{LineFault}
use Rattle.rm_outside.specs.declared.source.LineFault.TheVariants.{Failed, TooLong, OutOfMemory}

-- what is left: the bytes of the buffer from start to end, and then those that the reader has
abbrev pub left_of : ℕ → ℕ → List ℕ → Option (List ℕ) → Option (List ℕ)
left_of start end buffer known = prepend_known (take (end - start) (drop start buffer)) known

-- the end of a line, where it was met
abbrev pub end_of : Bool → List ℕ
end_of true = 10 ∷ []
end_of false = []

-- the next bytes of a line were taken, so many, and its end if it was met behind them
pub record TakesPart (room : ℕ) (old new : Option (List ℕ)) (before after : List ℕ) (count : ℕ) (ended : Bool) : Type 0 where
  pub part : List ℕ
  pub counted : length part ≡ count
  pub few : count ≤ room
  pub inside : HasNoEnd part
  pub appended : after ≡ before ++ part
  pub taken : Consumes old new (part ++ end_of ended)
  pub some : ended ≡ false → 0 < count

-- nothing is left, so that nothing was taken
pub record FindsEnd (old new : Option (List ℕ)) (before after : List ℕ) : Type 0 where
  pub end : IsAtEnd new
  pub kept : Keeps old new
  pub same : after ≡ before

-- the next part of a line was taken, or nothing is left
abbrev pub TakesNext : ℕ → Option (List ℕ) → Option (List ℕ) → List ℕ → List ℕ → Option Part → Type 0
TakesNext room old new before after None = FindsEnd old new before after
TakesNext room old new before after (Some p) = TakesPart room old new before after p.length p.ended

-- the bytes that are left begin with more bytes than these without an end, where they are told
abbrev pub BeginsLong : ℕ → Option (List ℕ) → Type 0
BeginsLong room old = (part : List ℕ) × (new : Option (List ℕ)) × HasNoEnd part × Consumes old new part × (room < length part)

-- a part is too long, so that with those seen before it is past the limit
abbrev pub IsPartFault : ℕ → ℕ → Option (List ℕ) → LineFault → Type 0
IsPartFault limit seen old Failed = Unit {0}
IsPartFault limit seen old (TooLong found) = (limit < found) × BeginsLong (limit - seen) old
IsPartFault limit seen old OutOfMemory = Unit {0}

-- nothing is too long
abbrev pub IsReadFault : LineFault → Type 0
IsReadFault Failed = Unit {0}
IsReadFault (TooLong found) = ⊥
IsReadFault OutOfMemory = Unit {0}

-- the next line is too long
abbrev pub IsLineFault : ℕ → Option (List ℕ) → LineFault → Type 0
IsLineFault limit old Failed = Unit {0}
IsLineFault limit old (TooLong seen) = (limit < seen) × IsNextLong limit old
IsLineFault limit old OutOfMemory = Unit {0}
