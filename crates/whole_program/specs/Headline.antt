-- The headline: what the stages of a run leave of a query and a document, and the page that they make.
use Rattle.std.specs.Prelude.{◌≡◌, ℕ, ◌<◌, ◌↔◌, Bool, IsTrue, List, Option, length}
use Rattle.span_core.specs.Lists.{Has}
use Rattle.node_arena.specs.Words.{Word}
use Rattle.spanner_model.specs.Answers.{IsRest, SpanRow}
use Rattle.spanner_model.specs.Expression.{QueryTree}
use Rattle.spanner_model.specs.Passing.{Check, passing}
use Rattle.marked_automaton.specs.Automaton.{IsMarked, Marked}
use Rattle.place_automaton.specs.Atom.{AreBytes}
use Rattle.query_automaton.specs.CompiledQuery.{IsCompiled}
use Rattle.segment_filter.specs.Touching.{Contains}
use Rattle.spanner_engine.specs.Touching.{TouchedOf}
use Rattle.output_graph.specs.Graph.{Graph, HasWord, targets}
use Rattle.one_pass.specs.Places.{AreReadWords}
use Rattle.one_pass.specs.Seen.{accepted_words}
use Rattle.enumerator.specs.Enumeration.{AreInBlockOrder, AreRowsOf}
use Rattle.rematch_program.specs.Pages.{first_rows}
use Rattle.rematch_program.specs.Testing.{IsPassingPageOf}

-- what they leave, in their order; each fact is a clause of the call that is named
pub record Stages (q : QueryTree) (d : List ℕ) (after : Option SpanRow) : Type 0 where
  -- `compile`: an automaton of the query
  pub automaton : Marked
  pub compiled : IsCompiled q automaton
  pub marked : IsMarked automaton
  -- `positions_read`: where the document is read, at the least where the atoms touch it
  pub positions : ℕ → Bool
  pub touched : Contains positions (TouchedOf q d)
  -- `Pass::read` and `end_with`: a graph of the words with which it is read there
  pub graph : Graph
  pub read : AreReadWords automaton.graph positions d (accepted_words graph)
  -- `OutputGraph::turn`: the list of those words
  pub words : List Word
  pub turned : (w : Word) → Has words w ↔ HasWord (targets graph) 0 w
  -- `Enumerator::new`: their rows
  pub rows : List SpanRow
  pub of_words : AreRowsOf (length automaton.names) words rows
  pub in_order : AreInBlockOrder rows
  -- `Enumerator::from_row`: those after the cursor's row
  pub rest : List SpanRow
  pub behind : IsRest after rows rest

-- of these the rows that pass, and as many as the limit allows
module _ (checks : List Check) (names : List (List ℕ)) (d : List ℕ) (limit : Option ℕ) (rest : List SpanRow) where
  abbrev pub rows_passing : List SpanRow
  rows_passing = passing checks names d rest

  abbrev pub rows_written : List SpanRow
  rows_written = first_rows limit rows_passing

-- they are the page of the query's answers on the document, and the note at its end says truly whether more remain
abbrev pub Headline : Type 0
Headline =
    (q : QueryTree) (d : List ℕ) → AreBytes d → (after : Option SpanRow) (s : Stages q d after) →
    (checks : List Check) (limit : Option ℕ) (more : Bool) →
    let names = s.automaton.names in
    IsTrue more ↔ (length (rows_written checks names d limit s.rest) < length (rows_passing checks names d limit s.rest)) →
    IsPassingPageOf checks q d names after limit (rows_written checks names d limit s.rest) more
