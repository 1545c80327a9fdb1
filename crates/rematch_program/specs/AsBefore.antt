-- Queries of functional formulas, whose unions have equal variables: what they are, answer and are told to be is what it was before a
-- variable could be absent.
use Rattle.std.specs.Prelude.{◌≡◌, ◌↔◌, ℕ, List, ◌++◌, codes}
use Rattle.std.specs.Fmt.{decimal}
use Rattle.std.specs.List.{All}
use Rattle.std.specs.Option.{IsSome}
use Rattle.span_core.specs.Lists.{Has}
use Rattle.spanner_model.specs.Captures.{VarName, Mapping, row_of}
use Rattle.spanner_model.specs.Expression.{AtomTree, QueryTree}
use Rattle.spanner_model.specs.Answers.{SpanRow, AreInBlockOrder, AreAnswers, AreResultNames}
use Rattle.spanner_model.specs.Functional.{IsFunctional, IsFunctionalQuery, IsTotalAnswer}
use Rattle.spanner_model.specs.Sound.{IsSound}
use Rattle.spanner_model.specs.WellBuilt.{IsWellBuilt}
use Rattle.place_automaton.specs.PlainCounts.{plain_states, plain_ways}
use Rattle.rematch_program.specs.Explained.{atom_line, shown_number}
use Rattle.note_texts.specs.Notes.{line}

-- all answers by the definition that knows no absent variable, each once, in block order
pub record AreTotalAnswers (q : QueryTree) (d : List ℕ) (names : List VarName) (rows : List SpanRow) : Type 0 where
  pub in_order : AreInBlockOrder rows
  pub each_answers : (row : SpanRow) → Has rows row → (m : Mapping) × IsTotalAnswer q d m × (row ≡ row_of names m)
  pub all_there : (m : Mapping) → IsTotalAnswer q d m → Has rows (row_of names m)

-- the line of an atom, by the numbers that look at no marker
abbrev pub plain_atom_line : ℕ → AtomTree → List ℕ
plain_atom_line k a =
    line (codes "atom " ++ decimal k
    ++ codes " states " ++ shown_number (plain_states a)
    ++ codes " ways " ++ shown_number (plain_ways a))

-- They are sound. Their answers are the same list, of rows in which no variable is absent, so that pages and cursors, which are
-- functions of rows, are the same bytes; and each atom is told with the same numbers.
pub record FunctionalQueriesAreServedAsBefore : Type 0 where
  pub sound : (q : QueryTree) → IsFunctionalQuery q → IsSound q
  pub same_rows : (q : QueryTree) (d : List ℕ) (names : List VarName) (rows : List SpanRow) → IsFunctionalQuery q →
      AreTotalAnswers q d names rows ↔ AreAnswers q d names rows
  pub none_absent : (q : QueryTree) (d : List ℕ) (names : List VarName) (rows : List SpanRow) → IsFunctionalQuery q → AreResultNames q names →
      AreAnswers q d names rows → (row : SpanRow) → Has rows row → All IsSome row
  pub same_numbers : (k : ℕ) (a : AtomTree) → IsFunctional a.formula → IsWellBuilt a.formula → atom_line k a ≡ plain_atom_line k a
