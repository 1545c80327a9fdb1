-- What a run of the program is given by each call, and how it ended.
use Rattle.std.specs.Prelude.{◌≡◌, ◌≢◌, ◌⊎◌, ℕ, ◌<◌, List, [], ◌∷◌, ◌++◌, length, drop, Option, None, Some, if◌then◌else◌, bytes_eq}
use Rattle.std.specs.Str.{IsUtf8}
use Rattle.rm_outside.specs.Status.{exit_status_of}
use Rattle.rm_outside.specs.declared.status.Status.{Status}
use Rattle.memory_run.specs.Input.{input_name}
use Rattle.memory_run.specs.Ran.{Ran, document_of, words_of}
use Rattle.memory_run.specs.declared.memory_run.MemoryRun.{MemoryRun}
use Rattle.rematch_c.specs.Refusals.{program}
use Rattle.rematch_c.specs.declared.held.Held.{Held}
use Rattle.rematch_c.specs.declared.held.Held.TheVariants.{Run}
use Rattle.rematch_c.specs.declared.runs.Written.{Written}

-- no run is held
abbrev pub IsNoRun : Option Held → Type 0
IsNoRun (Some (Run r)) = ⊥
IsNoRun _ = Unit {0}

-- the same words and the same documents
pub record IsGivenAlike (old new : MemoryRun) : Type 0 where
  pub words : words_of new ≡ words_of old
  pub documents : (n : List ℕ) → document_of new n ≡ document_of old n

-- no word and no document
pub record IsGivenNothing (r : MemoryRun) : Type 0 where
  pub words : words_of r ≡ []
  pub documents : (n : List ℕ) → document_of r n ≡ None

-- one word more, and the same documents
pub record HasWord (old : MemoryRun) (word : List ℕ) (new : MemoryRun) : Type 0 where
  pub words : words_of new ≡ words_of old ++ word ∷ []
  pub documents : (n : List ℕ) → document_of new n ≡ document_of old n

-- the same words, and one document more
pub record HasDocument (old : MemoryRun) (name bytes : List ℕ) (new : MemoryRun) : Type 0 where
  pub words : words_of new ≡ words_of old
  pub documents : (n : List ℕ) → document_of new n ≡ (if bytes_eq name n then Some bytes else document_of old n)

-- a run was begun, or memory is wanting
pub data RunBegun : Option Held → ℕ → Type 0 where
  begun : {r : MemoryRun} → IsGivenNothing r → RunBegun (Some (Run r)) 0
  want : RunBegun None 9

-- a word was given
pub data WordAdded : Option Held → List ℕ → Option Held → ℕ → Type 0 where
  added : {r new : MemoryRun} {word : List ℕ} → HasWord r word new → WordAdded (Some (Run r)) word (Some (Run new)) 0
  no_text : {r : MemoryRun} {word : List ℕ} → ¬ IsUtf8 word → WordAdded (Some (Run r)) word (Some (Run r)) 10
  want : {r new : MemoryRun} {word : List ℕ} → IsGivenAlike r new → WordAdded (Some (Run r)) word (Some (Run new)) 9
  no_run : {held : Option Held} {word : List ℕ} → IsNoRun held → WordAdded held word held 2

-- a document was given
pub data DocumentAdded : Option Held → List ℕ → List ℕ → Option Held → ℕ → Type 0 where
  added : {r new : MemoryRun} {name bytes : List ℕ} → HasDocument r name bytes new → DocumentAdded (Some (Run r)) name bytes (Some (Run new)) 0
  no_text : {r : MemoryRun} {name bytes : List ℕ} → ¬ IsUtf8 name → DocumentAdded (Some (Run r)) name bytes (Some (Run r)) 10
  taken : {r new : MemoryRun} {name bytes : List ℕ} → (name ≡ input_name) ⊎ (document_of r name ≢ None) → IsGivenAlike r new →
      DocumentAdded (Some (Run r)) name bytes (Some (Run new)) 2
  want : {r new : MemoryRun} {name bytes : List ℕ} → IsGivenAlike r new → DocumentAdded (Some (Run r)) name bytes (Some (Run new)) 9
  no_run : {held : Option Held} {name bytes : List ℕ} → IsNoRun held → DocumentAdded held name bytes held 2

-- memory for the two outputs of a run, before and after, and how much of it was written
pub record Outputs : Type 0 where
  pub rows : List ℕ
  pub new_rows : List ℕ
  pub notes : List ℕ
  pub new_notes : List ℕ
  pub written : Written

abbrev pub outputs : List ℕ → List ℕ → List ℕ → List ℕ → Written → Outputs
outputs rows new_rows notes new_notes written = record { rows = rows; new_rows = new_rows; notes = notes; new_notes = new_notes; written = written }

-- nothing was written
pub record AreAsBefore (o : Outputs) : Type 0 where
  pub rows : o.new_rows ≡ o.rows
  pub notes : o.new_notes ≡ o.notes
  pub no_row : o.written.rows ≡ 0
  pub no_note : o.written.notes ≡ 0

-- these rows and this note were written to the front of each
pub record Have (o : Outputs) (rows note : List ℕ) : Type 0 where
  pub rows_put : o.new_rows ≡ rows ++ drop (length rows) o.rows
  pub notes_put : o.new_notes ≡ note ++ drop (length note) o.notes
  pub row_bytes : o.written.rows ≡ length rows
  pub note_bytes : o.written.notes ≡ length note

-- A run ended: what it wrote is there, or has no room; or memory is wanting for it. Nothing is given any more then.
pub data Ended : Option Held → List ℕ → Option Held → Outputs → ℕ → Type 0 where
  ended : {r new : MemoryRun} {input : List ℕ} {o : Outputs} (rows note : List ℕ) (status : Status) →
      Ran program (words_of r) (document_of r) input rows note status → Have o rows note → IsGivenNothing new →
      Ended (Some (Run r)) input (Some (Run new)) o (exit_status_of status)
  no_room : {r new : MemoryRun} {input : List ℕ} {o : Outputs} (rows note : List ℕ) (status : Status) →
      Ran program (words_of r) (document_of r) input rows note status → (length o.rows < length rows) ⊎ (length o.notes < length note) →
      AreAsBefore o → IsGivenNothing new → Ended (Some (Run r)) input (Some (Run new)) o 8
  want : {r new : MemoryRun} {input : List ℕ} {o : Outputs} → AreAsBefore o → IsGivenNothing new → Ended (Some (Run r)) input (Some (Run new)) o 9
  no_run : {held : Option Held} {input : List ℕ} {o : Outputs} → IsNoRun held → AreAsBefore o → Ended held input held o 2
