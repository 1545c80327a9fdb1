-- Where a piece of a document ends: the words of some sets are given, and these sets are given up.
use Rattle.std.specs.Prelude.{◌≡◌, ℕ, ◌+◌, ◌*◌, ◌≤◌, ◌↔◌, Bool, List, [], length}
use Rattle.span_core.specs.Lists.{Has}
use Rattle.marked_automaton.specs.Reach.{IsFlagged}
use Rattle.node_arena.specs.Rows.{rows}
use Rattle.node_arena.specs.Words.{Word}
use Rattle.output_graph.specs.Graph.{sources}
use Rattle.output_graph.specs.Listed.{Lists}
use Rattle.output_graph.specs.Order.{AreInOrder}
use Rattle.one_pass.specs.Passes.{Reaches}
use Rattle.one_pass.specs.Readings.{IsReadyThere, come_to}
use Rattle.one_pass.specs.SoFar.{SoFar}

-- which sets are given and given up
abbrev pub Rule : Type 1
Rule = List ℕ → Type 0

-- all members are spent and one is lasting
abbrev pub IsSettledSet : (ℕ → Type 0) → (ℕ → Type 0) → Rule
IsSettledSet IsSpent IsLasting set = ((q : ℕ) → Has set q → IsSpent q) × ((q : ℕ) × Has set q × IsLasting q)

-- by flags of the states: none of its states is in `unspent`, and one is in `lasting`
abbrev pub IsSettledBy : List Bool → List Bool → Rule
IsSettledBy unspent lasting = IsSettledSet (λ q. ¬ IsFlagged unspent q) (IsFlagged lasting)

-- the words of these sets have been given, as rows, and the reading goes on with the others
pub record HasSettled (G : Rule) (r : SoFar) (n : ℕ) (s : SoFar) (lists : Lists) (m : ℕ) : Type 0 where
  pub table : s.table ≡ r.table
  pub at : s.at ≡ r.at
  pub ready : IsReadyThere s
  pub kept : (set : List ℕ) (w : Word) → Reaches (come_to s m) set w ↔ (Reaches (come_to r n) set w × ¬ G set)
  pub given : (w : Word) → Has (rows lists.store lists.first) w ↔ ((set : List ℕ) × Reaches (come_to r n) set w × G set)
  pub order : AreInOrder (rows lists.store lists.first)
  pub cells : length s.graph.cells ≤ length r.graph.cells
  pub layer : length (sources s.graph) ≤ length (sources r.graph)
  pub steps : m ≤ n + 6 * length r.graph.cells + 10 * length (sources r.graph) + 3

-- the reading stands at 0: no word that reaches a set of it has a position
pub record HasRebased (r : SoFar) (s : SoFar) : Type 0 where
  pub table : s.table ≡ r.table
  pub graph : s.graph ≡ r.graph
  pub at : s.at ≡ 0
  pub ready : IsReadyThere s
  pub empty : (set : List ℕ) (w : Word) → Reaches (come_to r 0) set w → w ≡ []
