-- What an output graph keeps true.
use Rattle.std.specs.Prelude.{◌≡◌, ◌⊎◌, ◌↔◌, ℕ, ◌+◌, ◌*◌, ◌<◌, ◌≤◌, List, [], ◌∷◌, ◌++◌, map, drop, length, Some}
use Rattle.span_core.specs.Lists.{Has, AreDistinct}
use Rattle.node_arena.specs.Cells.{NamedLink, Holds, hold}
use Rattle.node_arena.specs.Words.{Word}
use Rattle.output_graph.specs.Forward.{Layer, cell_of, Choice, AreSources}
use Rattle.output_graph.specs.Source.{Edges, InSource, Between, with_choices}
use Rattle.output_graph.specs.Grown.{past}
use Rattle.output_graph.specs.Graph.{Graph, LeadsTo, sets_of}
use Rattle.span_core.specs.declared.edge.Edge.{Edge}

-- the cells of the sources that are left and of the next layer are held once, and no others are held
pub record AreHeldOnce (holds : Holds) (left : List ℕ) (next : Layer) : Type 0 where
  pub at_left : (c : ℕ) → Has left c → hold holds c ≡ 1
  pub at_next : (s c : ℕ) → cell_of next s ≡ Some c → hold holds c ≡ 1
  pub only : (c : ℕ) → 0 < hold holds c → Has left c ⊎ ((s : ℕ) × (cell_of next s ≡ Some c))

-- a source and its marks tell the target
abbrev pub TellTargets : List Choice → Type 0
TellTargets done = (d e : Choice) → Has done d → Has done e → d.cell ≡ e.cell → d.marks ≡ e.marks → d.to ≡ e.to

-- between two sources, with what is held
pub record Among (sources left : List ℕ) (W : ℕ → List Word) (at : ℕ) (done : List Choice) (cells : List NamedLink) (next : Layer) (holds : Holds) : Type 0 where
  pub apart : AreSources sources W at
  pub between : Between sources left W at done cells next
  pub held : AreHeldOnce holds left next
  pub told : TellTargets done
  pub sets : AreDistinct (sets_of next)

-- among the edges of the source c, with what is held
pub record Amid (sources after : List ℕ) (W : ℕ → List Word) (at c : ℕ) (edges : Edges) (done : List Choice) (cells : List NamedLink) (next : Layer) (holds : Holds) : Type 0 where
  pub apart : AreSources sources W at
  pub inside : InSource sources after W at c edges done cells next
  pub held : AreHeldOnce holds (c ∷ after) next
  pub told : TellTargets done
  pub sets : AreDistinct (sets_of next)

-- at this position the sources that are left may be stepped
pub record IsReady (at : ℕ) (cells : List NamedLink) (left : List ℕ) (next : Layer) (holds : Holds) : Type 0 where
  pub sources : List ℕ
  pub W : ℕ → List Word
  pub done : List Choice
  pub among : Among sources left W at done cells next holds
  pub are_sources : (c : ℕ) → Has left c → Has sources c
  pub distinct : AreDistinct left

abbrev pub left_cells : Graph → List ℕ
left_cells g = map (λ (p : ℕ × ℕ). p.1) (drop g.stepped g.layer)

-- the position of the step may be this
abbrev pub IsPlaceOf : Graph → ℕ → Type 0
IsPlaceOf g at = ((g.stepped ≡ 0) × (past g.cells ≤ at)) ⊎ ((0 < g.stepped) × (g.at ≡ at))

pub record IsSound (g : Graph) (holds : Holds) : Type 0 where
  pub few : g.stepped ≤ length g.layer
  pub fresh : g.stepped ≡ 0 → g.next ≡ []
  pub ready : (at : ℕ) → IsPlaceOf g at → IsReady at g.cells (left_cells g) g.next holds
  pub sets : AreDistinct (sets_of g.layer)

-- what these edges of the source c do
abbrev pub Makes : ℕ → ℕ → Edges → List NamedLink → Layer → Holds → List NamedLink → Layer → Holds → Type 0
Makes at c edges cells next holds cells_after next_after holds_after =
    (sources after : List ℕ) (W : ℕ → List Word) (done : List Choice) (rest : Edges) →
    Amid sources after W at c (edges ++ rest) done cells next holds → Amid sources after W at c rest (with_choices c edges done) cells_after next_after holds_after

-- what the last edges of the source c do, and its end
abbrev pub Ends : ℕ → ℕ → Edges → List NamedLink → Layer → Holds → List NamedLink → Layer → Holds → Type 0
Ends at c edges cells next holds cells_after next_after holds_after =
    (sources after : List ℕ) (W : ℕ → List Word) (done : List Choice) →
    Amid sources after W at c edges done cells next holds → Among sources after W at (with_choices c edges done) cells_after next_after holds_after

-- these edges of the source c may be made
abbrev pub CanEnd : ℕ → ℕ → Edges → List NamedLink → Layer → Holds → Type 0
CanEnd at c edges cells next holds =
    (sources : List ℕ) × (after : List ℕ) × (W : ℕ → List Word) × (done : List Choice) × Amid sources after W at c edges done cells next holds

-- so many cells are made, and so much is counted
pub record IsSpent (edges old new before after : ℕ) : Type 0 where
  pub made : ℕ
  pub few : made ≤ edges
  pub more : new ≤ old + made
  pub bound : after + new ≤ before + old + 2 * made + 1

-- edges of a source as they are given
abbrev pub edges_of : List Edge → Edges
edges_of edges = map (λ (e : Edge). (e.marks, e.to)) edges

-- ends lead to the one set of accepted words, which has the number 0
abbrev pub edges_of_ends : List ℕ → Edges
edges_of_ends ends = map (λ (m : ℕ). (m, 0)) ends

-- what a loop over edges has done
pub record HasMade (at c : ℕ) (edges : Edges) (cells : List NamedLink) (next : Layer) (holds : Holds)
    (cells_after : List NamedLink) (next_after : Layer) (holds_after : Holds) : Type 0 where
  pub makes : Makes at c edges cells next holds cells_after next_after holds_after
  pub marked : (e : ℕ × ℕ) → Has edges e → 0 < e.0
  pub more : length cells_after ≡ length cells + length edges
  pub reached : (s : ℕ) → Has (sets_of next_after) s ↔ (Has (sets_of next) s ⊎ LeadsTo edges s)
  pub few : length next_after ≤ length next + length edges

-- what the edges of a source and its end have done
pub record HasEnded (at c : ℕ) (edges : Edges) (cells : List NamedLink) (next : Layer) (holds : Holds)
    (cells_after : List NamedLink) (next_after : Layer) (holds_after : Holds) : Type 0 where
  pub ends : Ends at c edges cells next holds cells_after next_after holds_after
  pub reached : (s : ℕ) → Has (sets_of next_after) s ↔ (Has (sets_of next) s ⊎ LeadsTo edges s)
  pub few : length next_after ≤ length next + length edges
  pub hands_on : (to : ℕ) → edges ≡ (0, to) ∷ [] → (Has (sets_of next) to → ⊥) → length cells_after ≤ length cells

abbrev pub graph_of : List NamedLink → Layer → Layer → ℕ → ℕ → Graph
graph_of cells layer next stepped at = record { cells = cells; layer = layer; next = next; stepped = stepped; at = at }
