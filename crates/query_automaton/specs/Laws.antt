-- What the automaton of a query accepts.
use Rattle.std.specs.Prelude.{ℕ, ◌↔◌, List}
use Rattle.spanner_model.specs.Captures.{Mapping, row_of}
use Rattle.spanner_model.specs.Expression.{QueryTree}
use Rattle.spanner_model.specs.Answer.{IsAnswer}
use Rattle.spanner_model.specs.Answers.{AreResultNames}
use Rattle.spanner_model.specs.Sound.{IsSound}
use Rattle.marked_automaton.specs.Automaton.{Accepts, IsWhole, Marked}
use Rattle.place_automaton.specs.Atom.{AreBytes}
use Rattle.place_automaton.specs.Words.{IsWordOf}
use Rattle.query_automaton.specs.QueryAutomaton.{of_query}

-- its variables are those of the query's result; its words are those of the rows of answers, and no others
abbrev pub AcceptsAnswersOf : QueryTree → Marked → Type 0
AcceptsAnswersOf q A =
    AreResultNames q A.names
    × ((d : List ℕ) → AreBytes d → (w : ℕ → ℕ) →
    Accepts A.graph d w ↔ ((m : Mapping) × IsAnswer q d m × IsWordOf (row_of A.names m) d w))

-- the automaton of a sound query does, and is whole
abbrev pub QueryWords : Type 0
QueryWords = (q : QueryTree) → IsSound q → AcceptsAnswersOf q (of_query q) × IsWhole (of_query q).graph
