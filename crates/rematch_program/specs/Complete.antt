-- Where nothing stands in the way, what is asked for is written whole, or memory was wanting.
use Rattle.std.specs.Prelude.{◌≡◌, ◌≤◌, ◌⊎◌, ℕ, List, Option, Some, Bool, IsTrue, length, codes}
use Rattle.rm_outside.specs.declared.status.Status.{Status}
use Rattle.rm_outside.specs.declared.status.Status.TheVariants as status
use Rattle.command_line.specs.RequestView.{RequestView, Query, Itself, HeldBy, requested}
use Rattle.command_line.specs.declared.request.Mode.TheVariants as mode
use Rattle.span_core.specs.declared.kept.Kept.{Kept}
use Rattle.spanner_model.specs.Captures.{VarName}
use Rattle.spanner_model.specs.Expression.{QueryTree}
use Rattle.spanner_model.specs.Answers.{SpanRow, AreResultNames}
use Rattle.query_parser.specs.Tested.{IsTestedText}
use Rattle.spanner_model.specs.Tested.{TestedTree}
use Rattle.spanner_engine.specs.Touching.{HasMinus}
use Rattle.trial_maker.specs.Trial.{trial_text}
use Rattle.rematch_program.specs.declared.TheConstants.{QUERY_LIMIT, DOCUMENT_LIMIT}
use Rattle.rm_outside.specs.Change.{Change, Adds, Failed}
use Rattle.rematch_program.specs.Work.{Clock}
use Rattle.spanner_engine.specs.Begun.{AreRead, HasHeavyAtom, row_kept, table_weight}
use Rattle.spanner_model.specs.Passing.{AreKnown, Check, Known, checks_of}
use Rattle.rematch_program.specs.Limits.{PartsAreSmall}
use Rattle.note_texts.specs.Notes.{line}
use Rattle.rematch_program.specs.Pages.{IsAfter, CursorFits, page_text, last_note}
use Rattle.rematch_program.specs.Run.{Text, Shelved, HasFaults, RunTested}
use Rattle.rematch_program.specs.Testing.{AreAllPassing, IsPassingPageOf, explain_tested}
use Rattle.rematch_program.specs.Trials.{trial_summary}

-- the query's text: given by itself, or told by the shelf, within the limit, with no fault counted
abbrev pub IsTextOf : Shelved → Query → Text → Type 0
IsTextOf s (Itself own) text = own ≡ text
IsTextOf s (HeldBy name) text = (s.before.held name ≡ Some text) × (length text ≤ QUERY_LIMIT) × ¬ HasFaults s name

-- accepted words, the text of a sound query whose tests are known, and no fault of a sink counted; `names` are those of the query's result
pub record IsClear (k : Known) (words : List Text) (a : RequestView) (text : Text) (t : TestedTree) (names : List VarName) (s : Shelved) (out notes : Change) : Type 0 where
  pub accepted : requested words ≡ Some a
  pub given : IsTextOf s a.query text
  pub sound : IsTestedText text t
  pub tests_known : AreKnown k t.asked
  pub named : AreResultNames t.query names
  pub written : ¬ Failed out
  pub noted : ¬ Failed notes

-- no limit of sizes is passed: by no automaton, with the filter by no atom's two readings where no difference stands in the query's text,
-- and by no table at the positions that are read
pub record IsWithinLimits (a : RequestView) (q : QueryTree) (document : Text) : Type 0 where
  pub small : PartsAreSmall q
  pub filtered : IsTrue a.filter → ¬ HasMinus q → ¬ HasHeavyAtom q document a.max_table
  pub light : (K : ℕ → Bool) × AreRead a.filter q document K × (table_weight q document K ≤ a.max_table)

-- a document that the shelf tells, within the limit, with no fault counted, and a cursor that fits
pub record HasDocument (a : RequestView) (names : List VarName) (after : Option Kept) (document : Text) (s : Shelved) : Type 0 where
  pub begins : IsAfter names a.after after
  pub held : s.before.held a.document ≡ Some document
  pub few : length document ≤ DOCUMENT_LIMIT
  pub fits : CursorFits (length document) after
  pub fetched : ¬ HasFaults s a.document

-- the page and its note, whole
pub record IsWhole (a : RequestView) (q : QueryTree) (checks : List Check) (names : List VarName) (after : Option Kept) (document : Text) (out notes : Change) (result : Status) : Type 0 where
  pub done : result ≡ status.Done
  pub rows : List SpanRow
  pub more : Bool
  pub page : IsPassingPageOf checks q document names (row_kept after) a.limit rows more
  pub text : Adds out (page_text a.form a.texts names document rows)
  pub note : Adds notes (last_note names (length document) a.after rows more)

-- a text and the note `end`, whole
pub record IsWritten (text : Text) (out notes : Change) (result : Status) : Type 0 where
  pub done : result ≡ status.Done
  pub wrote : Adds out text
  pub note : Adds notes (line (codes "end"))

-- the summary of all answers that pass, whole
pub record IsSummed (lines : ℕ) (q : QueryTree) (checks : List Check) (names : List VarName) (out notes : Change) (result : Status) : Type 0 where
  pub rows : List SpanRow
  pub answers : AreAllPassing checks q (trial_text lines) names rows
  pub writes : IsWritten (trial_summary lines names (trial_text lines) rows) out notes result

abbrev pub PlainCompletes : Known → List Text → Shelved → Change → Change → Status → Type 0
PlainCompletes k words s out notes result =
    (a : RequestView) (text : Text) (t : TestedTree) (names : List VarName) (after : Option Kept) (document : Text) →
    a.mode ≡ mode.Plain → IsClear k words a text t names s out notes → HasDocument a names after document s → IsWithinLimits a t.query document →
    IsWhole a t.query (checks_of k t.asked) names after document out notes result ⊎ (result ≡ status.Memory)

abbrev pub TrialCompletes : Known → List Text → Shelved → Change → Change → Status → Type 0
TrialCompletes k words s out notes result =
    (a : RequestView) (text : Text) (t : TestedTree) (names : List VarName) (lines : ℕ) →
    a.mode ≡ mode.Trial lines → IsClear k words a text t names s out notes → IsWithinLimits a t.query (trial_text lines) →
    IsSummed lines t.query (checks_of k t.asked) names out notes result ⊎ (result ≡ status.Memory)

abbrev pub ExplainCompletes : Known → List Text → Shelved → Change → Change → Status → Type 0
ExplainCompletes k words s out notes result =
    (a : RequestView) (text : Text) (t : TestedTree) (names : List VarName) →
    a.mode ≡ mode.Explain → IsClear k words a text t names s out notes →
    IsWritten (explain_tested t names) out notes result ⊎ (result ≡ status.Memory)

abbrev pub Completes : Known → List Text → Shelved → Change → Change → Status → Type 0
Completes k words s out notes result =
    PlainCompletes k words s out notes result × TrialCompletes k words s out notes result × ExplainCompletes k words s out notes result

-- what a run does brings this about
abbrev pub CompletenessLaw : Type 0
CompletenessLaw =
    (k : Known) (words : List Text) (s : Shelved) (out notes : Change) (steps : Clock) (result : Status) → RunTested k words s out notes steps result →
    Completes k words s out notes result
