-- What each call answers.
use Rattle.std.specs.Prelude.{◌≡◌, ℕ, ◌*◌, ◌<◌, ◌≤◌, List, [], length, take, drop, slice_get, Option, None, Some}
use Rattle.spanner_model.specs.Captures.{VarName}
use Rattle.row_cursor.specs.CursorTexts.{cursor_text}
use Rattle.spanner_model.specs.Answers.{AreResultNames, SpanRow}
use Rattle.query_parser.specs.Binding.{IsOnlyTested}
use Rattle.spanner_library.specs.Library.{Given, PreparedQuery, checks_by, tree}
use Rattle.known_tests.specs.Relations.{relation}
use Rattle.rm_outside.specs.Status.{exit_status_of}
use Rattle.rm_outside.specs.declared.status.Status.{Status}
use Rattle.rm_outside.specs.declared.status.Status.TheVariants as status
use Rattle.rematch_c.specs.declared.held.Held.{Held}
use Rattle.rematch_c.specs.declared.held.Held.TheVariants.{Query, Rows}
use Rattle.rematch_c.specs.declared.open_rows.ReadOptions.{ReadOptions}
use Rattle.rematch_c.specs.declared.short_text.ShortText.{ShortText}
use Rattle.rematch_c.specs.Refusals.{IsReadRefusal, IsResumeRefusal, IsTextRefusal, IsWant, program}
use Rattle.rematch_c.specs.Rows.{AreRowsBehind, AreAllRowsOf, IsRowIn, QueryRows, rows_within}
use Rattle.rematch_c.specs.Texts.{IsText}

-- no compiled query is held
abbrev pub IsNoQuery : Option Held → Type 0
IsNoQuery (Some (Query p)) = ⊥
IsNoQuery _ = Unit {0}

-- no rows are held
abbrev pub IsNoRows : Option Held → Type 0
IsNoRows (Some (Rows r)) = ⊥
IsNoRows _ = Unit {0}

-- a value was put into a slot, with no note; or memory is wanting
pub data Holds (held : Held) (old : ShortText) : Option Held → ShortText → Status → Type 0 where
  holds : Holds held old (Some held) old status.Done
  want : {note : ShortText} → IsWant note → Holds held old None note status.Memory

-- a text was compiled, or refused
pub data Compiled (text : List ℕ) : Option Held → ShortText → ℕ → Type 0 where
  compiled : {p : PreparedQuery} {note : ShortText} → IsOnlyTested program text (tree p) → AreResultNames (tree p).query p.names → IsText note [] →
      Compiled text (Some (Query p)) note 0
  refused : {note : ShortText} (how : Status) → IsTextRefusal text how note → Compiled text None note (exit_status_of how)

-- the variables of a query were counted
pub data Counted : Option Held → ℕ → ℕ → Type 0 where
  counted : {p : PreparedQuery} → Counted (Some (Query p)) (length p.names) 0
  no_query : {held : Option Held} → IsNoQuery held → Counted held 0 2

-- a variable of a query was named
pub data Named : Option Held → ℕ → ShortText → ℕ → Type 0 where
  named : {p : PreparedQuery} {place : ℕ} {name : VarName} {text : ShortText} → slice_get p.names place ≡ Some name → IsText text name →
      Named (Some (Query p)) place text 0
  no_variable : {p : PreparedQuery} {place : ℕ} {text : ShortText} → slice_get p.names place ≡ None → IsText text [] → Named (Some (Query p)) place text 2
  no_query : {held : Option Held} {place : ℕ} {text : ShortText} → IsNoQuery held → IsText text [] → Named held place text 2

-- another slot holds the same query
pub data Shared : Option Held → Option Held → ℕ → Type 0 where
  shared : {p : PreparedQuery} → Shared (Some (Query p)) (Some (Query p)) 0
  want : {p : PreparedQuery} → Shared (Some (Query p)) None 9
  no_query : {held : Option Held} → IsNoQuery held → Shared held None 2

-- a document was read, or refused
pub data Opened (held : Option Held) (document : List ℕ) (options : ReadOptions) : Option Held → ShortText → ℕ → Type 0 where
  opened : {p : PreparedQuery} {r : QueryRows} {note : ShortText} → held ≡ Some (Query p) → AreAllRowsOf p document options r → IsText note [] →
      Opened held document options (Some (Rows r)) note 0
  refused : {p : PreparedQuery} {note : ShortText} (how : Status) → held ≡ Some (Query p) → IsReadRefusal p document options None how note →
      Opened held document options None note (exit_status_of how)
  no_query : {note : ShortText} → IsNoQuery held → IsText note [] → Opened held document options None note 2

-- a document was read for the rows behind a cursor, or refused
pub data Resumed (held : Option Held) (document cursor : List ℕ) (options : ReadOptions) : Option Held → ShortText → ℕ → Type 0 where
  resumed : {p : PreparedQuery} {r : QueryRows} {note : ShortText} → held ≡ Some (Query p) → AreRowsBehind p document cursor options r → IsText note [] →
      Resumed held document cursor options (Some (Rows r)) note 0
  refused : {p : PreparedQuery} {note : ShortText} (how : Status) → held ≡ Some (Query p) → IsResumeRefusal p document cursor options how note →
      Resumed held document cursor options None note (exit_status_of how)
  no_query : {note : ShortText} → IsNoQuery held → IsText note [] → Resumed held document cursor options None note 2

-- the next rows were given, where one has room or none is wanted
pub data Filled : Option Held → Option Held → List ℕ → List ℕ → ℕ → ℕ → ℕ → Type 0 where
  filled : {r new : QueryRows} {before after : List ℕ} {most given : ℕ} → new.query ≡ r.query → new.document ≡ r.document →
      (0 < most → 2 * length r.query.names ≤ length before) →
      Given (checks_by relation r.query) r.query.names r.document r.rest new.rest before after (rows_within most (length before) (2 * length r.query.names)) given →
      Filled (Some (Rows r)) (Some (Rows new)) before after most given 0
  no_room : {r : QueryRows} {out : List ℕ} {most : ℕ} → 0 < most → length out < 2 * length r.query.names →
      Filled (Some (Rows r)) (Some (Rows r)) out out most 0 8
  no_rows : {held : Option Held} {out : List ℕ} {most : ℕ} → IsNoRows held → Filled held held out out most 0 2

-- the cursor of a row was printed, of which these are the numbers
pub data Printed : Option Held → List ℕ → List ℕ → List ℕ → ℕ → ℕ → Type 0 where
  printed : {r : QueryRows} {numbers before after : List ℕ} {count : ℕ} (row : SpanRow) → IsRowIn (length r.query.names) (length r.document) numbers row →
      count ≡ length (cursor_text r.query.names row (length r.document)) → take count after ≡ cursor_text r.query.names row (length r.document) →
      drop count after ≡ drop count before → Printed (Some (Rows r)) numbers before after count 0
  no_room : {r : QueryRows} {numbers text : List ℕ} {count : ℕ} (row : SpanRow) → IsRowIn (length r.query.names) (length r.document) numbers row →
      count ≡ length (cursor_text r.query.names row (length r.document)) → length text < count → Printed (Some (Rows r)) numbers text text count 8
  no_row : {r : QueryRows} {numbers text : List ℕ} → ((row : SpanRow) → IsRowIn (length r.query.names) (length r.document) numbers row → ⊥) →
      Printed (Some (Rows r)) numbers text text 0 2
  want : {r : QueryRows} {numbers text : List ℕ} → Printed (Some (Rows r)) numbers text text 0 9
  no_rows : {held : Option Held} {numbers text : List ℕ} → IsNoRows held → Printed held numbers text text 0 2
