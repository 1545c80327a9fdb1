-- From the words with which a document is read to the rows of a query's answers.
use Rattle.std.specs.Prelude.{ℕ, ◌≤◌, ◌↔◌, Bool, true, List, length, Some}
use Rattle.span_core.specs.Lists.{Has}
use Rattle.spanner_model.specs.Captures.{Mapping, row_of}
use Rattle.spanner_model.specs.Expression.{QueryTree}
use Rattle.spanner_model.specs.Answer.{IsAnswer}
use Rattle.spanner_model.specs.Answers.{AreAnswers, IsRest}
use Rattle.spanner_model.specs.Sound.{IsSound}
use Rattle.marked_automaton.specs.Automaton.{Accepts, Automaton, IsMarked, Marked, size}
use Rattle.marked_automaton.specs.Reduct.{Reduces}
use Rattle.automaton_reading.specs.Chosen.{IsReadWith}
use Rattle.automaton_reading.specs.Reading.{edges_K, weight_K}
use Rattle.place_automaton.specs.Atom.{AreBytes}
use Rattle.place_automaton.specs.Words.{IsWordOf}
use Rattle.query_automaton.specs.CompiledQuery.{IsCompiled}
use Rattle.enumerator.specs.Enumeration.{AreInBlockOrder, AreRowsOf, IsRestAfter, IsWordOfRow, SpanRow}
use Rattle.one_pass.specs.Builds.{build}
use Rattle.one_pass.specs.Places.{AreReadWords, word_through}
use Rattle.one_pass.specs.Words.{Word}
use Rattle.spanner_engine.specs.Begun.{AreRead}

-- reading at the positions of K finds the words of the rows of the query's answers, and no others
abbrev pub ReadsAnswers : QueryTree → Marked → List ℕ → (ℕ → Bool) → Type 0
ReadsAnswers q A d K =
    (w : ℕ → ℕ) → IsReadWith A.graph K d w ↔ ((m : Mapping) × IsAnswer q d m × IsWordOf (row_of A.names m) d w)

-- each word that is read is that of a row
abbrev pub WordsAreOfRows : Type 0
WordsAreOfRows =
    (q : QueryTree) (A : Marked) (d : List ℕ) (K : ℕ → Bool) → ReadsAnswers q A d K →
    (words : List Word) → AreReadWords A.graph K d words → (w : Word) → Has words w → IsWordOfRow (length A.names) w

-- their rows, in block order, are the answers
abbrev pub RowsAreAnswers : Type 0
RowsAreAnswers =
    (q : QueryTree) (A : Marked) (d : List ℕ) (K : ℕ → Bool) → ReadsAnswers q A d K →
    (words : List Word) → AreReadWords A.graph K d words →
    (rows : List SpanRow) → AreRowsOf (length A.names) words rows → AreInBlockOrder rows → AreAnswers q d A.names rows

-- those after a row are the rest
abbrev pub RowsAfterAreTheRest : Type 0
RowsAfterAreTheRest = (after : SpanRow) (rows rest : List SpanRow) → IsRestAfter after rows rest → IsRest (Some after) rows rest

-- what reading a reduct costs is no more
pub record CostsNoMore (A B : Automaton) (d : List ℕ) (K : ℕ → Bool) : Type 0 where
  pub sizes : size A ≤ size B
  pub edges : edges_K A d K ≤ edges_K B d K
  pub weights : weight_K A d K ≤ weight_K B d K
  pub steps : build A d K ≤ build B d K

abbrev pub ReductCosts : Type 0
ReductCosts = (A : Marked) (B : Automaton) → IsMarked A → Reduces A.graph B → (d : List ℕ) (K : ℕ → Bool) → CostsNoMore A.graph B d K

-- every word that the automaton of a compiled query accepts is that of a row
abbrev pub CompiledAcceptsRows : Type 0
CompiledAcceptsRows =
    (q : QueryTree) (A : Marked) → IsCompiled q A → (d : List ℕ) → AreBytes d → (w : ℕ → ℕ) →
    Accepts A.graph d w → IsWordOfRow (length A.names) (word_through w (length d))

-- the rows of the words with which it reads a whole document, in block order, are the answers
abbrev pub WholeRowsAreAnswers : Type 0
WholeRowsAreAnswers =
    (q : QueryTree) (A : Marked) → IsCompiled q A → (d : List ℕ) → AreBytes d → (words : List Word) → AreReadWords A.graph (λ i. true) d words →
    (rows : List SpanRow) → AreRowsOf (length A.names) words rows → AreInBlockOrder rows → AreAnswers q d A.names rows

-- there is a set of the positions that are read, for each sound query on each document
abbrev pub ReadAreASet : Type 0
ReadAreASet = (filter : Bool) (q : QueryTree) → IsSound q → (d : List ℕ) → AreBytes d → (K : ℕ → Bool) × AreRead filter q d K
