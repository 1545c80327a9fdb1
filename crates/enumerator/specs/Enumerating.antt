-- What is always true of an enumerator.
use Rattle.std.specs.Prelude.{◌≡◌, ℕ, ◌≤◌, List, take}
use Rattle.span_core.specs.declared.TheConstants.{MOST_VARIABLES}
use Rattle.span_core.specs.Lists.{Has}
use Rattle.output_graph.specs.Listed.{AreLists, Lists}
use Rattle.node_arena.specs.Words.{Word}
use Rattle.node_arena.specs.Rows.{rows}
use Rattle.enumerator.specs.declared.stack.Waiting.{Waiting}
use Rattle.enumerator.specs.Enumeration.{IsWordOfRow, SpanRow}
use Rattle.enumerator.specs.Rows.{positions_of, row_of}
use Rattle.enumerator.specs.Waiting.{AreStacked}

pub record IsEnumerating (lists : Lists) (v : ℕ) (stack : List Waiting) (spans : SpanRow) (m : ℕ) (positions : List ℕ) : Type 0 where
  pub few : v ≤ MOST_VARIABLES
  pub sound : AreLists lists
  pub words : (w : Word) → Has (rows lists.store lists.first) w → IsWordOfRow v w
  pub stacked : AreStacked lists.store v stack
  pub row : take v spans ≡ row_of v m (positions_of positions)
