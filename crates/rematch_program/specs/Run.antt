-- What a run does under the tests that are known: the relation between the words, what the shelf told before and after (so which names
-- were fetched), the bytes added to out and notes, the steps taken, and the status. The first case that applies is taken. Want of
-- memory may stand in place of any.
use Rattle.std.specs.Prelude.{◌≡◌, ◌≢◌, ◌<◌, ◌≤◌, ℕ, List, [], ◌∷◌, Bool, false, Option, Some, None, IfSome, IsTrue, length, codes}
use Rattle.rm_outside.specs.Faults.{Rose}
use Rattle.rm_outside.specs.Told.{Told, GrewBy}
use Rattle.rm_outside.specs.declared.status.Status.{Status}
use Rattle.rm_outside.specs.declared.status.Status.TheVariants as status
use Rattle.command_line.specs.RequestView.{RequestView, Itself, HeldBy, requested}
use Rattle.command_line.specs.declared.request.Mode.{Mode}
use Rattle.command_line.specs.declared.request.Mode.TheVariants as mode
use Rattle.span_core.specs.declared.kept.Kept.{Kept}
use Rattle.spanner_model.specs.Captures.{VarName}
use Rattle.spanner_model.specs.Expression.{QueryTree}
use Rattle.spanner_model.specs.Answers.{SpanRow, AreResultNames}
use Rattle.query_parser.specs.declared.fault.QueryFault.{QueryFault}
use Rattle.query_parser.specs.Tested.{IsTestedText}
use Rattle.spanner_model.specs.Tested.{TestedTree}
use Rattle.row_cursor.specs.CursorTexts.{IsCursorText}
use Rattle.rematch_program.specs.declared.TheConstants.{QUERY_LIMIT, DOCUMENT_LIMIT}
use Rattle.marked_automaton.specs.declared.fault.SizeFault.TheVariants.{States, Ways}
use Rattle.marked_automaton.specs.Automaton.{Marked}
use Rattle.query_automaton.specs.CompiledQuery.{IsCompiled}
use Rattle.query_automaton.specs.Parts.{AtomsAreSmall, HasLargePart}
use Rattle.trial_maker.specs.Trial.{trial_text}
use Rattle.spanner_engine.specs.Touching.{HasMinus}
use Rattle.rm_outside.specs.Change.{Change, IsQuiet, Adds, AddsPart, Failed}
use Rattle.rematch_program.specs.Work.{Clock, Work, clock, work, StandsStill, DidNothing}
use Rattle.rematch_program.specs.Testing.{AreAllPassing, IsPassingPageOf, PageKeeps, TrialKeeps, explain_tested}
use Rattle.spanner_engine.specs.Begun.{AreRead, HasHeavyAtom, IsPast, IsReadWithin, KeepsOther, begin_steps, row_kept, table_weight}
use Rattle.spanner_engine.specs.Filtering.{AreAtomsWithin}
use Rattle.spanner_model.specs.Passing.{AreKnown, Check, Known, checks_of, known}
use Rattle.query_parser.specs.Binding.{HasFaultUnder, IsOnlyTested}
use Rattle.note_texts.specs.Outcomes.{Is, IsOutOfMemory, Reports}
use Rattle.note_texts.specs.Notes.{number_between, fault_note, filter_note, line, other_document_note, states_note, table_note, ways_note}
use Rattle.rematch_program.specs.Steps.{KeepsWithin}
use Rattle.rematch_program.specs.Trials.{trial_summary}
use Rattle.rematch_program.specs.Pages.{IsAfter, CursorFits, page_text, last_note}

abbrev pub Text : Type 0
Text = List ℕ

-- what the shelf told before and after
pub record Shelved : Type 0 where
  pub before : Told
  pub after : Told

abbrev pub shelved : Told → Told → Shelved
shelved before after = record { before = before; after = after }

-- nothing was fetched
abbrev pub IsUntouched : Shelved → Type 0
IsUntouched s = s.after ≡ s.before

-- this name was fetched, once, and no other
pub record Fetches (s : Shelved) (name : Text) : Type 0 where
  pub grew : GrewBy (name ∷ []) s.before.fetched s.after.fetched
  pub kept : s.after.held ≡ s.before.held
  pub later : (n : Text) → s.before.faults n ≤ s.after.faults n

-- faults of this name were counted
abbrev pub HasFaults : Shelved → Text → Type 0
HasFaults s name = Rose (s.before.faults name) (s.after.faults name)

-- the name was fetched, and that failed
pub record FetchFailed (s : Shelved) (name : Text) : Type 0 where
  pub once : Fetches s name
  pub faulty : HasFaults s name

-- the name was fetched, and has these bytes, at most limit, as far as the shelf tells
pub record Gives (s : Shelved) (name : Text) (limit : ℕ) (bytes : Text) : Type 0 where
  pub once : Fetches s name
  pub told : IfSome (s.before.held name) (λ all. bytes ≡ all)
  pub few : length bytes ≤ limit

-- the name was fetched, and has more bytes than limit, as far as the shelf tells
pub record IsTooLong (s : Shelved) (name : Text) (limit : ℕ) : Type 0 where
  pub once : Fetches s name
  pub many : IfSome (s.before.held name) (λ all. limit < length all)

-- nothing was fetched, written or counted
abbrev pub IsIdle : Shelved → Work → Type 0
IsIdle s w = IsUntouched s × DidNothing w

-- the text has this fault under the tests that are known, and no other, and is that of no sound query whose tests are known
pub record IsOnlyFault (k : Known) (text : Text) (fault : QueryFault) : Type 0 where
  pub found : HasFaultUnder k text fault
  pub only : (other : QueryFault) → HasFaultUnder k text other → other ≡ fault
  pub unsound : (t : TestedTree) → IsTestedText text t → ¬ AreKnown k t.asked

-- an automaton of the query is too large, or memory is wanting
pub data IsTooLarge (q : QueryTree) (end : Status) (note : Text) : Type 0 where
  by_states : (count : ℕ) → HasLargePart q (States count) → Is end note status.Size states_note → IsTooLarge q end note
  by_ways : (count : ℕ) → HasLargePart q (Ways count) → Is end note status.Size ways_note → IsTooLarge q end note
  by_memory : IsOutOfMemory end note → IsTooLarge q end note

-- no answer is begun with the document: the cursor keeps another length, or none and a span of it ends past the document; with the
-- filter, and where no difference stands in the query's text, what the two readings of some atom meet weighs too much; reading it where
-- it is read does; or memory is wanting
module _ (filter : Bool) (q : QueryTree) (after : Option Kept) (document : Text) (max_table : ℕ) (steps : Clock) (end : Status) (note : Text) where
  -- the steps of the work that was done
  abbrev pub KeepsBegun : Type 0
  KeepsBegun = KeepsWithin filter q document (λ K. begin_steps filter q document K (row_kept after)) steps

  pub data IsNotBegun : Type 0 where
    other_document : (kept : ℕ) → KeepsOther (length document) after kept → Is end note status.Cursor (other_document_note kept (length document)) → StandsStill steps → IsNotBegun
    past_the_document : IsPast (length document) after → Is end note status.Cursor (codes "cursor: past the document") → StandsStill steps → IsNotBegun
    filter_full : CursorFits (length document) after → IsTrue filter → ¬ HasMinus q → HasHeavyAtom q document max_table → Is end note status.Size (filter_note max_table) → KeepsBegun → IsNotBegun
    table_full : CursorFits (length document) after → ((K : ℕ → Bool) → AreRead filter q document K → max_table < table_weight q document K) →
        Is end note status.Size (table_note max_table) → KeepsBegun → IsNotBegun
    by_memory : IsOutOfMemory end note → KeepsBegun → IsNotBegun

-- ---- the stages, the last first: w is what the work did, which ends with this status and this note

module _ (w : Work) (end : Status) (note : Text) where
  -- with the text, the note at its end, and what the counter of steps keeps to while it is written
  pub data FromPage (text last : Text) (Keeps : Clock → Type 0) : Type 0 where
    whole : end ≡ status.Done → note ≡ last → Adds w.out text → Keeps w.steps → FromPage text last Keeps
    write_failed : Is end note status.Write (codes "write failed") → Failed w.out → AddsPart w.out text → Keeps w.steps → FromPage text last Keeps
    out_of_memory : IsOutOfMemory end note → AddsPart w.out text → Keeps w.steps → FromPage text last Keeps

-- what the query is was told, or memory is wanting
pub data IsExplained (t : TestedTree) (out : Change) (end : Status) (note : Text) : Type 0 where
  told_names : (names : List VarName) → AreResultNames t.query names → FromPage (work out (clock 0 0)) end note (explain_tested t names) (line (codes "end")) StandsStill →
      IsExplained t out end note
  by_memory : IsOutOfMemory end note → IsQuiet out → IsExplained t out end note

-- what the answers are read from keeps the limit of the table: what reading the document must hold, counted on an automaton that the
-- query was compiled to, and, with the filter, what the two readings of each atom meet
pub record IsHeldWithin (filter : Bool) (q : QueryTree) (document : Text) (max_table : ℕ) : Type 0 where
  pub automaton : Marked
  pub compiled : IsCompiled q automaton
  pub read : IsReadWithin automaton.graph q document filter max_table
  pub atoms : AreAtomsWithin q document filter max_table

module _ (a : RequestView) (q : QueryTree) (checks : List Check) (w : Work) (end : Status) (note : Text) where
  -- with all that is needed: a page of the answers that pass, or the summary of them all
  pub data FromAnswers (names : List VarName) (after : Option Kept) (document : Text) : Type 0 where
    paged : a.mode ≡ mode.Plain → (rows : List SpanRow) (more : Bool) → IsPassingPageOf checks q document names (row_kept after) a.limit rows more →
        FromPage w end note (page_text a.form a.texts names document rows) (last_note names (length document) a.after rows more)
        (PageKeeps checks a.filter q names document (row_kept after) rows) → FromAnswers names after document
    summed : (lines : ℕ) → a.mode ≡ mode.Trial lines → (rows : List SpanRow) → AreAllPassing checks q document names rows →
        FromPage w end note (trial_summary lines names document rows) (line (codes "end")) (TrialKeeps checks a.filter q names document rows) →
        FromAnswers names after document

  -- with the document
  pub data FromDocument (names : List VarName) (after : Option Kept) (document : Text) : Type 0 where
    not_begun : IsNotBegun a.filter q after document a.max_table w.steps end note → IsQuiet w.out → FromDocument names after document
    out_of_memory : IsOutOfMemory end note → DidNothing w → FromDocument names after document
    answered : CursorFits (length document) after → IsHeldWithin a.filter q document a.max_table → FromAnswers names after document → FromDocument names after document

  module _ (s : Shelved) where
    -- with the place where the page begins
    pub data FromPlace (names : List VarName) (after : Option Kept) : Type 0 where
      document_failed : FetchFailed s a.document → Is end note status.Read (codes "read failed: document") → DidNothing w → FromPlace names after
      document_too_long : IsTooLong s a.document DOCUMENT_LIMIT → Is end note status.Long (number_between (codes "document longer than ") DOCUMENT_LIMIT (codes " bytes")) → DidNothing w → FromPlace names after
      out_of_memory : Fetches s a.document → IsOutOfMemory end note → DidNothing w → FromPlace names after
      found : (document : Text) → Gives s a.document DOCUMENT_LIMIT document → FromDocument names after document → FromPlace names after

    -- with the query's automaton, for a page; `names` are those of its result
    pub data FromCursor (names : List VarName) : Type 0 where
      no_cursor : (text : Text) → a.after ≡ Some text → ((others : List VarName) (row : SpanRow) (kept : Option ℕ) → ¬ IsCursorText others row kept text) →
          Is end note status.Cursor (codes "cursor: not a cursor") → IsIdle s w → FromCursor names
      other_variables : (text : Text) → a.after ≡ Some text → (others : List VarName) (row : SpanRow) (kept : Option ℕ) → IsCursorText others row kept text → others ≢ names →
          Is end note status.Cursor (codes "cursor: other variables") → IsIdle s w → FromCursor names
      placed : (after : Option Kept) → IsAfter names a.after after → FromPlace names after → FromCursor names

    -- with the query's automaton; a trial takes the made document, and all of its answers
    pub data FromCompiled : Type 0 where
      out_of_memory : IsOutOfMemory end note → IsIdle s w → FromCompiled
      page_asked : a.mode ≡ mode.Plain → (names : List VarName) → AreResultNames q names → FromCursor names → FromCompiled
      trial_asked : (lines : ℕ) → a.mode ≡ mode.Trial lines → (names : List VarName) → AreResultNames q names → IsUntouched s → FromDocument names None (trial_text lines) → FromCompiled

-- the answers are asked for, on a document that is held or on a made one
abbrev pub WantsAnswers : Mode → Type 0
WantsAnswers mode.Plain = Unit {0}
WantsAnswers mode.Explain = ⊥
WantsAnswers (mode.Trial lines) = Unit {0}

module _ (s : Shelved) (w : Work) (end : Status) (note : Text) where
  -- with the query and the checks of its tests
  pub data FromQuery (a : RequestView) (t : TestedTree) (checks : List Check) : Type 0 where
    explained : a.mode ≡ mode.Explain → IsExplained t w.out end note → StandsStill w.steps → IsUntouched s → FromQuery a t checks
    too_large : WantsAnswers a.mode → IsTooLarge t.query end note → IsIdle s w → FromQuery a t checks
    out_of_memory : IsOutOfMemory end note → IsIdle s w → FromQuery a t checks
    compiled : WantsAnswers a.mode → AtomsAreSmall t.query → FromCompiled a t.query checks w end note s → FromQuery a t checks

  module _ (k : Known) where
    -- with the query's text
    pub data FromText (a : RequestView) (text : Text) : Type 0 where
      query_refused : (fault : QueryFault) → IsOnlyFault k text fault → Is end note status.Query (fault_note fault) → IsIdle s w → FromText a text
      out_of_memory : IsOutOfMemory end note → IsIdle s w → FromText a text
      understood : (t : TestedTree) → IsOnlyTested k text t → FromQuery a t (checks_of k t.asked) → FromText a text

module _ (s : Shelved) (w : Work) (end : Status) (note : Text) where
  module _ (k : Known) where
    -- with the words' meaning; `between` is what the shelf told once the query was fetched
    pub data FromRequest (a : RequestView) : Type 0 where
      given : (text : Text) → a.query ≡ Itself text → FromText s w end note k a text → FromRequest a
      query_failed : (name : Text) → a.query ≡ HeldBy name → FetchFailed s name → Is end note status.Read (codes "read failed: query") → DidNothing w → FromRequest a
      query_too_long : (name : Text) → a.query ≡ HeldBy name → IsTooLong s name QUERY_LIMIT → Is end note status.Query (number_between (codes "query: longer than ") QUERY_LIMIT (codes " bytes")) → DidNothing w → FromRequest a
      out_of_memory : (name : Text) → a.query ≡ HeldBy name → Fetches s name → IsOutOfMemory end note → DidNothing w → FromRequest a
      fetched : (name : Text) → a.query ≡ HeldBy name → (text : Text) (between : Told) → Gives (shelved s.before between) name QUERY_LIMIT text →
          FromText (shelved between s.after) w end note k a text → FromRequest a

    -- with the words
    pub data FromWords (words : List Text) : Type 0 where
      refused : requested words ≡ None → Is end note status.Words (codes "bad command line") → IsIdle s w → FromWords words
      out_of_memory : IsOutOfMemory end note → IsIdle s w → FromWords words
      accepted : (a : RequestView) → requested words ≡ Some a → FromRequest a → FromWords words

-- ---- the run

-- a run under the tests that are known
pub record RunTested (k : Known) (words : List Text) (s : Shelved) (out notes : Change) (steps : Clock) (result : Status) : Type 0 where
  pub end : Status
  pub note : Text
  pub done : FromWords s (work out steps) end note k words
  pub report : Reports end note notes result

-- no test is known
abbrev pub none_known : Known
none_known = known [] (λ number bytes. false)

-- a run where no test is known
abbrev pub Run : List Text → Shelved → Change → Change → Clock → Status → Type 0
Run words s out notes steps result = RunTested none_known words s out notes steps result
