-- Which names a run fetches: each once, and those alone that it needs.
use Rattle.std.specs.Prelude.{◌≡◌, List, [], ◌∷◌, ◌++◌, Some, codes}
use Rattle.rm_outside.specs.Told.{GrewBy}
use Rattle.rm_outside.specs.declared.status.Status.{Status}
use Rattle.span_core.specs.Lists.{AreDistinct}
use Rattle.command_line.specs.RequestView.{RequestView, Query, Itself, HeldBy, requested}
use Rattle.command_line.specs.declared.request.Mode.{Mode}
use Rattle.command_line.specs.declared.request.Mode.TheVariants as mode
use Rattle.spanner_model.specs.Passing.{Known}
use Rattle.rm_outside.specs.Change.{Change}
use Rattle.rematch_program.specs.Work.{Clock}
use Rattle.rematch_program.specs.Run.{Text, Shelved, IsUntouched, RunTested}

-- the name of the query's text, where it is asked by name
abbrev pub query_names : Query → List Text
query_names (Itself text) = []
query_names (HeldBy name) = name ∷ []

-- the name of the document, which a page alone needs
abbrev pub document_names : Mode → Text → List Text
document_names mode.Plain document = document ∷ []
document_names mode.Explain document = []
document_names (mode.Trial lines) document = []

-- what a run may fetch, in this order
abbrev pub names_of : RequestView → List Text
names_of a = query_names a.query ++ document_names a.mode a.document

-- the first of these names were fetched, in this order, and no others
pub record FetchesFirst (s : Shelved) (all : List Text) : Type 0 where
  pub names : List Text
  pub rest : List Text
  pub grew : GrewBy names s.before.fetched s.after.fetched
  pub first : names ++ rest ≡ all

-- a run fetches no name that is not its query's or its document's, and these in this order
abbrev pub FetchesInOrder : Type 0
FetchesInOrder =
    (k : Known) (words : List Text) (s : Shelved) (out notes : Change) (steps : Clock) (result : Status) → RunTested k words s out notes steps result →
    (a : RequestView) → requested words ≡ Some a → FetchesFirst s (names_of a)

-- and none of them twice, unless the query and the document have one name, which then is not that of standard input
abbrev pub FetchesOnce : Type 0
FetchesOnce =
    (words : List Text) (a : RequestView) → requested words ≡ Some a → (a.query ≡ HeldBy a.document → a.document ≡ codes "-") →
    (names rest : List Text) → names ++ rest ≡ names_of a → AreDistinct names

-- where there is no name, as for `--explain` and `--trial` with a query that stands in the words, and for words that are refused, the
-- shelf is left as it was
abbrev pub FetchesNothing : Type 0
FetchesNothing =
    (k : Known) (words : List Text) (s : Shelved) (out notes : Change) (steps : Clock) (result : Status) → RunTested k words s out notes steps result →
    ((a : RequestView) → requested words ≡ Some a → names_of a ≡ []) → IsUntouched s
