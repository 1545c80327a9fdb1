-- What a run in memory is given, and what it did.
use Rattle.std.specs.Prelude.{◌≡◌, ◌≢◌, ℕ, List, [], map, Option, Some, if◌then◌else◌, bytes_eq, string_bytes}
use Rattle.known_tests.specs.Relations.{known_tests, relation}
use Rattle.rm_outside.specs.Change.{Change}
use Rattle.rm_outside.specs.MemoryShelf.{held_of}
use Rattle.rm_outside.specs.Told.{Told}
use Rattle.rm_outside.specs.declared.status.Status.{Status}
use Rattle.spanner_model.specs.Passing.{Known, known}
use Rattle.session_server.specs.Serve.{Serves, ServesAll}
use Rattle.whole_program.specs.declared.TheConstants.{MOST_REQUESTS}
use Rattle.whole_program.specs.All.{serving_words}
use Rattle.rematch_program.specs.Complete.{Completes}
use Rattle.rematch_program.specs.Run.{RunTested, shelved}
use Rattle.rematch_program.specs.Work.{Clock}
use Rattle.memory_run.specs.Input.{input_name}
use Rattle.memory_run.specs.declared.memory_run.MemoryRun.{MemoryRun}

-- the words
abbrev pub words_of : MemoryRun → List (List ℕ)
words_of r = map string_bytes r.words.items

-- the document that a name holds
abbrev pub document_of : MemoryRun → List ℕ → Option (List ℕ)
document_of r = held_of r.shelf

-- what a name holds for the program
abbrev pub with_input : (List ℕ → Option (List ℕ)) → List ℕ → List ℕ → Option (List ℕ)
with_input documents input n = if bytes_eq input_name n then Some input else documents n

-- the tests that the program knows
abbrev pub program : Known
program = known known_tests relation

-- these bytes were written by a sink in memory, which had none before
pub record Wrote (c : Change) (bytes : List ℕ) : Type 0 where
  pub empty : c.old.bytes ≡ Some []
  pub none : c.old.faults ≡ 0
  pub written : c.new.bytes ≡ Some bytes

-- A run of the program: over a shelf of the documents and the standard input, a source of that input, and two sinks in memory, with the
-- contract that a run over these has.
pub record Ran (k : Known) (words : List (List ℕ)) (documents : List ℕ → Option (List ℕ)) (input rows note : List ℕ) (status : Status) : Type 0 where
  pub before : Told
  pub after : Told
  pub source : Change
  pub out : Change
  pub notes : Change
  pub steps : Clock
  pub held : (n : List ℕ) → before.held n ≡ with_input documents input n
  pub asked : (source.old.bytes ≡ Some input) × (source.old.faults ≡ 0)
  pub wrote : Wrote out rows
  pub noted : Wrote notes note
  pub serves : words ≡ serving_words → Serves k MOST_REQUESTS source out notes status
  pub all : words ≡ serving_words → ServesAll k MOST_REQUESTS source out notes status
  pub run : words ≢ serving_words → RunTested k words (shelved before after) out notes steps status
  pub complete : words ≢ serving_words → Completes k words (shelved before after) out notes status
