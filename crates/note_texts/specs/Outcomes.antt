-- How a run ends: a status with its note, and what writing the note leaves.
use Rattle.std.specs.Prelude.{◌≡◌, ℕ, List, codes}
use Rattle.rm_outside.specs.Change.{Change, Adds, AddsPart, Failed}
use Rattle.rm_outside.specs.declared.status.Status.{Status}
use Rattle.rm_outside.specs.declared.status.Status.TheVariants as status
use Rattle.note_texts.specs.Notes.{line}

-- a status with its note, before the note is written
pub record Is (end : Status) (note : List ℕ) (wanted : Status) (text : List ℕ) : Type 0 where
  pub ends : end ≡ wanted
  pub says : note ≡ line text

abbrev pub IsOutOfMemory : Status → List ℕ → Type 0
IsOutOfMemory end note = Is end note status.Memory (codes "out of memory")

-- whose note failed is a failed write, where all else went well
abbrev pub status_without_note : Status → Status
status_without_note status.Done = status.Write
status_without_note end = end

-- the note is written, or notes failed and a prefix of it is
pub data Reports (end : Status) (note : List ℕ) (notes : Change) (result : Status) : Type 0 where
  whole : result ≡ end → Adds notes note → Reports end note notes result
  cut : result ≡ status_without_note end → Failed notes → AddsPart notes note → Reports end note notes result
