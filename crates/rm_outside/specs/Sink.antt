-- What a put adds, and what a fault leaves of it.
use Rattle.std.specs.Prelude.{◌≡◌, List, ℕ, Option, Result, Ok, Err}
use Rattle.std.specs.Io.KnownBytes.{Appends}
use Rattle.span_core.specs.Lists.{IsPrefixOf}
use Rattle.rm_outside.specs.Faults.{counted}

-- where the bytes are told, a prefix of these bytes was added
pub record AppendsPart (old new : Option (List ℕ)) (bytes : List ℕ) : Type 0 where
  pub part : List ℕ
  pub added : Appends old new part
  pub prefix : IsPrefixOf part bytes

-- an error is counted, and nothing else is
abbrev pub CountsErr : {T E : Type 0} → ℕ → ℕ → Result T E → Type 0
CountsErr before now (Ok _) = now ≡ before
CountsErr before now (Err _) = now ≡ counted before
