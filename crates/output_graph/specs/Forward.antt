-- The forward step: edges of the sources of a layer, into the next layer.
use Rattle.std.specs.Prelude.{◌≡◌, ◌⊎◌, ℕ, ◌<◌, ◌≤◌, List, [], ◌∷◌, ◌++◌, if◌then◌else◌, nat_eq, Option, Some, None}
use Rattle.span_core.specs.Lists.{Has, AreDistinct}
use Rattle.node_arena.specs.Words.{Word, words}
use Rattle.node_arena.specs.Cells.{NamedLink, HasCell}
use Rattle.output_graph.specs.Grown.{past_at, IsOpen, AreGrown}

-- the sets of a layer, each with its cell
abbrev pub Layer : Type 0
Layer = List (ℕ × ℕ)

abbrev pub cell_of : Layer → ℕ → Option ℕ
cell_of [] s = None
cell_of (p ∷ layer) s = if nat_eq p.0 s then Some p.1 else cell_of layer s

abbrev pub set_cell : Layer → ℕ → ℕ → Layer
set_cell [] s c = (s, c) ∷ []
set_cell (p ∷ layer) s c = if nat_eq p.0 s then (s, c) ∷ layer else p ∷ set_cell layer s c

abbrev pub mark_block : ℕ → ℕ → Word
mark_block at marks = if nat_eq marks 0 then [] else (at, marks) ∷ []

-- an edge of a source, by the source's cell
pub record Choice : Type 0 where
  pub cell : ℕ
  pub marks : ℕ
  pub to : ℕ

-- w is a word of these choices that leads to s, where W has the words of the sources
abbrev pub Chosen : (ℕ → List Word) → ℕ → List Choice → ℕ → Word → Type 0
Chosen W at done s w = (e : Choice) × (u : Word) × Has done e × (e.to ≡ s) × Has (W e.cell) u × (u ++ mark_block at e.marks ≡ w)

abbrev pub InLayer : List NamedLink → Layer → ℕ → Word → Type 0
InLayer cells layer s w = (c : ℕ) × (cell_of layer s ≡ Some c) × Has (words cells c) w

-- the words of the sources: below the position, each by one path, no word at two of them
pub record AreSources (sources : List ℕ) (W : ℕ → List Word) (at : ℕ) : Type 0 where
  pub below : (c : ℕ) (u : Word) (x : ℕ × ℕ) → Has sources c → Has (W c) u → Has u x → x.0 < at
  pub one_path : (c : ℕ) → Has sources c → AreDistinct (W c)
  pub apart : (c b : ℕ) (u : Word) → Has sources c → Has sources b → Has (W c) u → Has (W b) u → c ≡ b

-- what holds after some edges of a step; `left` has the sources that have edges left
pub record Stepping (sources left : List ℕ) (W : ℕ → List Word) (at : ℕ) (done : List Choice) (cells : List NamedLink) (next : Layer) : Type 0 where
  pub sound : (s c : ℕ) (w : Word) → cell_of next s ≡ Some c → Has (words cells c) w → Chosen W at done s w
  pub whole : (s : ℕ) (w : Word) → Chosen W at done s w → InLayer cells next s w
  pub there : (s c : ℕ) → cell_of next s ≡ Some c → HasCell cells c
  pub one_path : (s c : ℕ) → cell_of next s ≡ Some c → AreDistinct (words cells c)
  pub source_there : (c : ℕ) → Has left c → HasCell cells c
  pub source_words : (c : ℕ) → Has left c → words cells c ≡ W c
  pub by_sources : (e : Choice) → Has done e → Has sources e.cell

-- words of different sets differ
abbrev pub SetsAreApart : List NamedLink → Layer → Type 0
SetsAreApart cells layer =
    (s r c b : ℕ) (w : Word) → cell_of layer s ≡ Some c → cell_of layer r ≡ Some b → Has (words cells c) w → Has (words cells b) w → s ≡ r

-- how the cells grow in a step; `left` has the cells of the sources that have edges left
pub record Growing (left : List ℕ) (at : ℕ) (cells : List NamedLink) (next : Layer) : Type 0 where
  pub grown : AreGrown cells
  pub left_there : (c : ℕ) → Has left c → HasCell cells c
  pub left_open : (c : ℕ) → Has left c → IsOpen cells c
  pub left_later : (c : ℕ) → Has left c → past_at cells c ≤ at
  pub next_there : (s c : ℕ) → cell_of next s ≡ Some c → HasCell cells c
  pub next_open : (s c : ℕ) → cell_of next s ≡ Some c → IsOpen cells c
  pub next_apart : (s c : ℕ) → cell_of next s ≡ Some c → Has left c → ⊥
  pub next_once : (s r c : ℕ) → cell_of next s ≡ Some c → cell_of next r ≡ Some c → s ≡ r

-- the blocks that c's cells have so far stand before (at, marks)
abbrev pub ComesNext : List NamedLink → ℕ → ℕ → ℕ → Type 0
ComesNext cells c at marks =
    0 < marks → (d : NamedLink) → Has cells d → d.from ≡ Some c → 0 < d.marks → (d.at < at) ⊎ ((d.at ≡ at) × (marks < d.marks))

-- each is in the second list, and where no marks are taken c is no longer in it
abbrev pub LeavesOut : ℕ → ℕ → List ℕ → List ℕ → Type 0
LeavesOut marks c after before = ((b : ℕ) → Has after b → Has before b) × (marks ≡ 0 → Has after c → ⊥)
