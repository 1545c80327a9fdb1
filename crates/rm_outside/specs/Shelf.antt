-- What a fetch appends, and when it is refused.
use Rattle.std.specs.Prelude.{◌≡◌, ◌<◌, ℕ, ◌≤◌, List, ◌++◌, length, Result, Ok, Err}
use Rattle.rm_outside.specs.Faults.{counted}
use Rattle.rm_outside.specs.declared.shelf.FetchFault.{FetchFault}
use Rattle.rm_outside.specs.declared.shelf.FetchFault.TheVariants.{Failed, TooLong, OutOfMemory}

-- new is old with at most limit bytes after it
pub record Gains (limit : ℕ) (old new : List ℕ) : Type 0 where
  pub bytes : List ℕ
  pub appended : new ≡ old ++ bytes
  pub few : length bytes ≤ limit

-- a refusal by length comes only where more than limit bytes were seen
abbrev pub SeenPast : {T : Type 0} → ℕ → Result T FetchFault → Type 0
SeenPast limit (Ok _) = Unit {0}
SeenPast limit (Err Failed) = Unit {0}
SeenPast limit (Err (TooLong seen)) = limit < seen
SeenPast limit (Err OutOfMemory) = Unit {0}

-- of a name that holds this many bytes: refused by length exactly where they are more than limit
abbrev pub ByLength : {T : Type 0} → ℕ → ℕ → Result T FetchFault → Type 0
ByLength limit held (Ok _) = held ≤ limit
ByLength limit held (Err Failed) = Unit {0}
ByLength limit held (Err (TooLong _)) = limit < held
ByLength limit held (Err OutOfMemory) = Unit {0}

-- a failure is counted, and nothing else is
abbrev pub CountsFailure : {T : Type 0} → ℕ → ℕ → Result T FetchFault → Type 0
CountsFailure before now (Ok _) = now ≡ before
CountsFailure before now (Err Failed) = now ≡ counted before
CountsFailure before now (Err (TooLong _)) = now ≡ before
CountsFailure before now (Err OutOfMemory) = now ≡ before
