-- What a call did to a sink, or took from a source.
use Rattle.std.specs.Prelude.{◌≡◌, ℕ, List}
use Rattle.std.specs.Io.KnownBytes.{Appends}
use Rattle.rm_outside.specs.Faults.{Rose}
use Rattle.rm_outside.specs.Flow.{Flow}
use Rattle.rm_outside.specs.Sink.{AppendsPart}

-- what is told before and after
pub record Change : Type 0 where
  pub old : Flow
  pub new : Flow

abbrev pub change : Flow → Flow → Change
change old new = record { old = old; new = new }

-- nothing was added
abbrev pub IsQuiet : Change → Type 0
IsQuiet c = c.new.bytes ≡ c.old.bytes

-- these bytes were added
abbrev pub Adds : Change → List ℕ → Type 0
Adds c bytes = Appends c.old.bytes c.new.bytes bytes

-- a prefix of these bytes was added
abbrev pub AddsPart : Change → List ℕ → Type 0
AddsPart c bytes = AppendsPart c.old.bytes c.new.bytes bytes

-- it failed
abbrev pub Failed : Change → Type 0
Failed c = Rose c.old.faults c.new.faults
