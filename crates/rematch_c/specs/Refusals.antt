-- Why a query or a document is refused.
use Rattle.std.specs.Prelude.{◌≡◌, ◌≢◌, ◌⊎◌, ℕ, ◌^◌, ◌<◌, List, length, Option, Some, codes}
use Rattle.spanner_model.specs.Tested.{TestedTree}
use Rattle.query_parser.specs.declared.fault.QueryFault.{QueryFault}
use Rattle.marked_automaton.specs.declared.fault.SizeFault.{SizeFault}
use Rattle.query_automaton.specs.Parts.{HasLargePart}
use Rattle.span_core.specs.declared.kept.Kept.{Kept}
use Rattle.spanner_model.specs.Captures.{VarName}
use Rattle.spanner_model.specs.Answers.{SpanRow}
use Rattle.row_cursor.specs.CursorTexts.{IsCursorText}
use Rattle.spanner_engine.specs.Begun.{IsBeginFault}
use Rattle.spanner_engine.specs.declared.beginning.BeginFault.{BeginFault}
use Rattle.spanner_engine.specs.declared.beginning.BeginFault.TheVariants.{CursorOther, CursorPlace, Filter, Table, OutOfMemory}
use Rattle.spanner_model.specs.Passing.{Known, known}
use Rattle.query_parser.specs.Binding.{HasFaultUnder, IsOnlyTested}
use Rattle.spanner_library.specs.Library.{PreparedQuery, tree}
use Rattle.known_tests.specs.Relations.{known_tests, relation}
use Rattle.note_texts.specs.Notes.{number_between, fault_note, filter_note, other_document_note, size_note, table_note}
use Rattle.rm_outside.specs.declared.status.Status.{Status}
use Rattle.rm_outside.specs.declared.status.Status.TheVariants as status
use Rattle.rematch_c.specs.declared.open_rows.ReadOptions.{ReadOptions}
use Rattle.rematch_c.specs.declared.short_text.ShortText.{ShortText}
use Rattle.rematch_c.specs.Rows.{limit_of}
use Rattle.rematch_c.specs.Texts.{IsText}

-- the tests that the program knows
abbrev pub program : Known
program = known known_tests relation

-- memory is wanting
abbrev pub IsWant : ShortText → Type 0
IsWant note = IsText note (codes "out of memory")

-- a text is refused: the note says its fault, or that an automaton of the query is too large, or memory is wanting
abbrev pub IsTextRefusal : List ℕ → Status → ShortText → Type 0
IsTextRefusal text status.Query note = (fault : QueryFault) × HasFaultUnder program text fault × IsText note (fault_note fault)
IsTextRefusal text status.Size note = (t : TestedTree) × (fault : SizeFault) × IsOnlyTested program text t × HasLargePart t.query fault × IsText note (size_note fault)
IsTextRefusal text status.Memory note = IsWant note
IsTextRefusal text _ note = ⊥

-- a document is too long, or memory is wanting
abbrev pub IsLongRefusal : Status → ShortText → Type 0
IsLongRefusal status.Long note = IsText note (number_between (codes "document longer than ") (2 ^ 28) (codes " bytes"))
IsLongRefusal status.Memory note = IsWant note
IsLongRefusal _ note = ⊥

-- a note with its status, or memory is wanting
abbrev pub Says : Status → List ℕ → Status → ShortText → Type 0
Says wanted text how note = ((how ≡ wanted) × IsText note text) ⊎ ((how ≡ status.Memory) × IsWant note)

-- the note and the status of each fault, where the table and the filter may weigh so much
abbrev pub IsUnread : ℕ → BeginFault → Status → ShortText → Type 0
IsUnread limit (CursorOther kept found) = Says status.Cursor (other_document_note kept found)
IsUnread limit CursorPlace = Says status.Cursor (codes "cursor: past the document")
IsUnread limit (Filter weight) = Says status.Size (filter_note limit)
IsUnread limit (Table weight) = Says status.Size (table_note limit)
IsUnread limit OutOfMemory = λ how note. (how ≡ status.Memory) × IsWant note

-- a document is refused for rows behind what a cursor keeps, or for all: it is too long; or nothing is begun
abbrev pub IsReadRefusal : PreparedQuery → List ℕ → ReadOptions → Option Kept → Status → ShortText → Type 0
IsReadRefusal p d options after how note =
    ((2 ^ 28 < length d) × IsLongRefusal how note)
    ⊎ ((fault : BeginFault) × IsBeginFault (tree p).query d options.filter after (limit_of options) fault × IsUnread (limit_of options) fault how note)

-- rows behind a cursor are refused: its text is that of no cursor, or of one over other variables; or the document is refused
pub data IsResumeRefusal (p : PreparedQuery) (d cursor : List ℕ) (options : ReadOptions) (how : Status) (note : ShortText) : Type 0 where
  no_cursor : ((names : List VarName) (row : SpanRow) (length : Option ℕ) → IsCursorText names row length cursor → ⊥) →
      Says status.Cursor (codes "cursor: not a cursor") how note → IsResumeRefusal p d cursor options how note
  other_variables : (names : List VarName) (row : SpanRow) (length : Option ℕ) → IsCursorText names row length cursor → names ≢ p.names →
      Says status.Cursor (codes "cursor: other variables") how note → IsResumeRefusal p d cursor options how note
  unread : (kept : Kept) → IsCursorText p.names kept.row kept.length cursor → IsReadRefusal p d options (Some kept) how note → IsResumeRefusal p d cursor options how note
