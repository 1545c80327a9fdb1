-- The actions of a plan, on registers.
use Rattle.std.specs.Prelude.{◌≡◌, ℕ, zero, suc, ◌+◌, ◌-◌, ◌<◌, ◌≤◌, List, [], ◌∷◌, ◌++◌, length, Option, Some, None, IfSome, slice_get}
use Rattle.node_arena.specs.Cells.{HasCell, Holds, NamedLink, hold, less_hold, new_link, with_hold}
use Rattle.node_arena.specs.Release.{Released}
use Rattle.output_graph.specs.declared.program.Action.{Action}
use Rattle.output_graph.specs.declared.program.Action.TheVariants.{Make, Release}
use Rattle.output_graph.specs.declared.program.Plan.{Plan}
use Rattle.output_graph.specs.declared.program.Register.{Register}
use Rattle.output_graph.specs.declared.program.Register.TheVariants.{Kept, Made}
use Rattle.output_graph.specs.Forward.{Layer}
use Rattle.output_graph.specs.Graph.{Graph, sets_of}
use Rattle.output_graph.specs.Programs.{AreStepped, cut, edges_in}
use Rattle.output_graph.specs.Sets.{cells_in}
use Rattle.output_graph.specs.Sound.{IsSound, graph_of}

-- the cell of a register, where `sources` has the cells of the sources and `made` those that were made
abbrev pub cell_in : Layer → List ℕ → Register → Option ℕ
cell_in sources made (Kept k) = slice_get (cells_in sources) k
cell_in sources made (Made k) = slice_get made k

abbrev pub IsThere : Layer → List ℕ → Register → Type 0
IsThere sources made r = (c : ℕ) × (cell_in sources made r ≡ Some c)

abbrev pub also_in : Layer → List ℕ → Option Register → Option ℕ
also_in sources made None = None
also_in sources made (Some r) = cell_in sources made r

-- the cell of a register of the graph, if one is named
abbrev pub cell_at : Layer → Option ℕ → Option ℕ
cell_at registers None = None
cell_at registers (Some r) = slice_get (cells_in registers) r

-- the registers where one has another cell, and its name; one that is new is named 0
abbrev pub with_cell : Layer → ℕ → ℕ → Layer
with_cell [] r c = (0, c) ∷ []
with_cell (p ∷ registers) zero c = (p.0, c) ∷ registers
with_cell (p ∷ registers) (suc r) c = p ∷ with_cell registers r c

-- each place has the cell of its register
abbrev pub AreHeld : Layer → List ℕ → List Register → Layer → Type 0
AreHeld sources made [] [] = Unit {0}
AreHeld sources made [] (p ∷ next) = ⊥
AreHeld sources made (r ∷ held) [] = ⊥
AreHeld sources made (r ∷ held) (p ∷ next) = (cell_in sources made r ≡ Some p.1) × AreHeld sources made held next

-- the cells that were made, those of the arena with their holds, and how much was counted
pub record Point : Type 0 where
  pub made : List ℕ
  pub cells : List NamedLink
  pub holds : Holds
  pub now : ℕ

abbrev pub point : List ℕ → List NamedLink → Holds → ℕ → Point
point made cells holds now = record { made = made; cells = cells; holds = holds; now = now }

-- the actions may be done from here, and whatever they give, this holds then
abbrev pub Leads : Layer → ℕ → (Point → Type 0) → List Action → Point → Type 0
Leads sources at Then [] s = Then s
Leads sources at Then (Make l ∷ actions) s =
    (from : ℕ) × (slice_get (cells_in sources) l.from ≡ Some from) × HasCell s.cells from
    × IfSome l.also (λ r. IsThere sources s.made r)
    × IfSome (also_in sources s.made l.also) (λ a. (hold s.holds a ≡ 1) × (a ≡ from → ⊥))
    × ((name : ℕ) → (HasCell s.cells name → ⊥) → Leads sources at Then actions
    (point (s.made ++ name ∷ []) (new_link name at l.marks from (also_in sources s.made l.also) ∷ s.cells) (with_hold (less_hold s.holds (also_in sources s.made l.also)) name 1) (s.now + 1)))
Leads sources at Then (Release k ∷ actions) s =
    (c : ℕ) × (slice_get (cells_in sources) k ≡ Some c) × (0 < hold s.holds c)
    × ((cells : List NamedLink) (now : ℕ) → Released (with_hold s.holds c (hold s.holds c - 1)) s.cells cells → s.now < now → now + length cells ≤ s.now + 1 + length s.cells →
    Leads sources at Then actions (point s.made cells (with_hold s.holds c (hold s.holds c - 1)) now))

-- the layer has been stepped by a plan, and the cells of the next one are in their registers
pub record HasRun (first : Graph) (at : ℕ) (p : Plan) (before : ℕ) (made : List ℕ) (cells : List NamedLink) (holds : Holds) (after : ℕ) : Type 0 where
  pub next : Layer
  pub last : ℕ
  pub stepped : AreStepped first at (cut p.counts.items (edges_in p.moves.items)) (graph_of cells first.layer next (length p.counts.items) last) before after
  pub sound : IsSound (graph_of cells first.layer next (length p.counts.items) last) holds
  pub held : AreHeld first.layer made p.held.items next
  pub sets : sets_of next ≡ p.targets.items

-- and the registers have those cells, behind which others may have any
pub record HasCome (first : Graph) (at : ℕ) (p : Plan) (before : ℕ) (registers : Layer) (cells : List NamedLink) (holds : Holds) (after : ℕ) : Type 0 where
  pub made : List ℕ
  pub run : HasRun first at p before made cells holds after
  pub rest : List Register
  pub held : AreHeld first.layer made (p.held.items ++ rest) registers

-- what is to hold behind all actions
abbrev pub Runs : Graph → ℕ → Plan → ℕ → Point → Type 0
Runs first at p before s = HasRun first at p before s.made s.cells s.holds (s.now + length p.counts.items)
