-- What the code's sessions stand for.
use Rattle.std.specs.Prelude.{◌≡◌, ◌≤◌, ◌^◌, ◌⊎◌, ℕ, Bool, true, false, if◌then◌else◌, List, [], ◌∷◌, ◌++◌, length, take, nat_lt, Option, None, Some, MatchOption}
use Rattle.std.specs.Str.{IsUtf8}
use Rattle.serde_json.specs.Data.{array}
use Rattle.serde_json.specs.Written.{compact_text}
use Rattle.spanner_model.specs.Answers.{SpanRow, AreResultNames, AreAnswers}
use Rattle.spanner_model.specs.Expression.{QueryTree}
use Rattle.query_automaton.specs.CompiledQuery.{IsCompiled}
use Rattle.query_automaton.specs.Parts.{AtomsAreSmall}
use Rattle.growing_document.specs.Grown.{AreBytes, Grown}
use Rattle.growing_document.specs.Lengths.{IsAskedAt}
use Rattle.growing_document.specs.declared.fault.GrowFault.{GrowFault}
use Rattle.growing_document.specs.declared.fault.GrowFault.TheVariants as fault
use Rattle.spanner_model.specs.Captures.{VarName}
use Rattle.spanner_model.specs.Tested.{tested_of, TestedTree}
use Rattle.spanner_engine.specs.Fitting.{AreLast}
use Rattle.spanner_model.specs.Passing.{Known, AreKnown, checks_of, passing}
use Rattle.query_parser.specs.Binding.{IsOnlyTested}
use Rattle.session_server.specs.declared.session.Session.{Session as CodeSession}
use Rattle.note_texts.specs.declared.refusals.Refusal.{Refusal}
use Rattle.note_texts.specs.declared.refusals.Refusal.TheVariants.{Note, OutOfMemory}
use Rattle.session_server.specs.declared.session.Halt.{Halt}
use Rattle.session_server.specs.declared.session.Halt.TheVariants as halt
use Rattle.session_server.specs.declared.TheConstants.{SESSION_TABLE}
use Rattle.session_server.specs.Replies.{Session, HeavyNote, IsHeavy, IsRefused, asking, begun, giving, json_rows, row_data, to_come}
use Rattle.session_server.specs.Rows.{rows_text, with_row}

-- the code's document is read by the query's automaton, and its rows were asked for at these lengths
pub record IsReadOn (q : QueryTree) (document asked : List ℕ) (names : List VarName) (g : Grown) : Type 0 where
  pub compiled : IsCompiled q g.automaton
  pub named : g.automaton.names ≡ names
  pub limit : g.limit ≡ SESSION_TABLE
  pub holds : g.document ≡ document
  pub goes_on : g.spent ≡ false
  pub held : IsAskedAt g asked

-- the code has the query, the document and what is held of reading it
pub record IsKeptSession (k : Known) (c : CodeSession) (s : Session) : Type 0 where
  pub query : tested_of c.tested ≡ s.query
  pub growing : IsReadOn s.query.query s.document s.asked c.vars c.growing
  pub few : length s.document ≤ 2 ^ 28
  pub bytes : AreBytes s.document
  pub names : AreResultNames s.query.query c.vars
  pub tests_known : AreKnown k s.query.asked

-- the row that the code gives next, where one remains
abbrev pub next_row : CodeSession → Option SpanRow
next_row c = if c.some then Some c.answers.row else None

-- the rows that the code has still to give are those to come, where these are all answers
pub record IsSessionOver (k : Known) (c : CodeSession) (s : Session) (all : List SpanRow) : Type 0 where
  pub kept : IsKeptSession k c s
  pub ready : c.grown ≡ false
  pub same : s.grown ≡ false
  pub answers : AreAnswers s.query.query s.document c.vars all
  pub last : AreLast s.query.query s.document c.vars c.answers.rest
  pub wide : c.answers.variables ≡ length c.vars
  pub next : MatchOption (next_row c) (to_come k s c.vars all ≡ [])
      (λ row. to_come k s c.vars all ≡ row ∷ passing (checks_of k s.query.asked) c.vars s.document c.answers.rest)

-- its document has grown, and its rows are not asked for yet
pub record IsWaiting (k : Known) (c : CodeSession) (s : Session) : Type 0 where
  pub kept : IsKeptSession k c s
  pub waits : c.grown ≡ true
  pub grew : s.grown ≡ true
  pub anew : s.given ≡ 0

abbrev pub IsSession : Known → CodeSession → Session → Type 0
IsSession k c s = ((all : List SpanRow) × IsSessionOver k c s all) ⊎ IsWaiting k c s

-- all answers of a session, with what is true of them
abbrev pub AreAll : Session → List VarName → List SpanRow → Type 0
AreAll s names all = AreResultNames s.query.query names × AreAnswers s.query.query s.document names all

-- of this text and document one was begun
abbrev pub IsBegun : Known → List ℕ → List ℕ → CodeSession → Type 0
IsBegun k text document c =
    (t : TestedTree) × IsOnlyTested k text t × AtomsAreSmall t.query × AreResultNames t.query c.vars × IsSession k c (begun t document)

-- it gave these rows, so many at most, and tells whether more remain
pub record HasGiven (k : Known) (old new : CodeSession) (most : ℕ) (written : List ℕ) (more : Bool) (s : Session) (all : List SpanRow) : Type 0 where
  pub rows : written ≡ compact_text (array (json_rows old.vars (take most (to_come k s old.vars all))))
  pub tells : more ≡ nat_lt most (length (to_come k s old.vars all))
  pub now : IsSessionOver k new (giving (length (take most (to_come k s old.vars all))) s) all

-- the code's session gave rows of a session that may have grown
abbrev pub GivesPage : Known → CodeSession → CodeSession → ℕ → List ℕ → Bool → Session → Type 0
GivesPage k old new most written more s = (all : List SpanRow) × AreAll s old.vars all × HasGiven k old new most written more (asking s) all

-- a refusal of a document that grows; two of them never come of a session's
abbrev pub halt_of : GrowFault → Halt
halt_of (fault.Full weight) = halt.Heavy
halt_of (fault.TooLong seen) = halt.OutOfMemory
halt_of fault.Spent = halt.OutOfMemory
halt_of fault.OutOfMemory = halt.OutOfMemory

-- why a document is not read at first; why a session gives no rows; why its document does not grow; want of memory has no cause
abbrev pub IsStartHalt : QueryTree → List ℕ → Halt → Type 0
IsStartHalt q document halt.Heavy = IsHeavy q document (length document ∷ [])
IsStartHalt q document halt.OutOfMemory = Unit {0}

abbrev pub IsRowsHalt : Session → Halt → Type 0
IsRowsHalt s halt.Heavy = (s.grown ≡ true) × IsHeavy s.query.query s.document (length s.document ∷ s.asked)
IsRowsHalt s halt.OutOfMemory = Unit {0}

abbrev pub IsGrowHalt : Session → List ℕ → Halt → Type 0
IsGrowHalt s text halt.Heavy = IsHeavy s.query.query (s.document ++ text) s.asked
IsGrowHalt s text halt.OutOfMemory = Unit {0}

-- one row more
pub record GivesOne (k : Known) (old new : CodeSession) (before after : List ℕ) (s : Session) (all : List SpanRow) : Type 0 where
  pub row : SpanRow
  pub rest : List SpanRow
  pub comes : to_come k s old.vars all ≡ row ∷ rest
  pub written : after ≡ with_row before (compact_text (row_data old.vars row))
  pub now : IsSessionOver k new (giving 1 s) all

-- so far
pub record GivesSoFar (k : Known) (old new : CodeSession) (count : ℕ) (written : List ℕ) (s : Session) (all : List SpanRow) : Type 0 where
  pub vars : new.vars ≡ old.vars
  pub few : count ≤ length (to_come k s old.vars all)
  pub rows : written ≡ rows_text old.vars (take count (to_come k s old.vars all))
  pub now : IsSessionOver k new (giving count s) all

-- why no session was opened; want of memory has no cause
abbrev pub IsRefusal : Known → List ℕ → List ℕ → Refusal → Type 0
IsRefusal k text document (Note note) = IsRefused k text document note.items × IsUtf8 note.items
IsRefusal k text document OutOfMemory = Unit {0}

-- why no answers are begun, of a query that is read
abbrev pub IsTooHeavy : QueryTree → List ℕ → Refusal → Type 0
IsTooHeavy q document (Note note) = HeavyNote q document note.items × IsUtf8 note.items
IsTooHeavy q document OutOfMemory = Unit {0}
