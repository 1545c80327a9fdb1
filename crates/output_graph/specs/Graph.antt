-- What contracts see of an output graph.
use Rattle.std.specs.Prelude.{◌≡◌, ◌⊎◌, ◌↔◌, ℕ, ◌+◌, ◌*◌, ◌<◌, ◌≤◌, List, [], ◌∷◌, ◌++◌, map, drop, length}
use Rattle.span_core.specs.Lists.{Has, AreDistinct}
use Rattle.node_arena.specs.Cells.{NamedLink, Names}
use Rattle.node_arena.specs.Words.{Word, words}
use Rattle.output_graph.specs.Forward.{Layer, mark_block}
use Rattle.output_graph.specs.Source.{Edges}

-- the cells, newest first; the layer and the next one, by set and cell; how many sources of the layer are stepped, and where
pub record Graph : Type 0 where
  pub cells : List NamedLink
  pub layer : Layer
  pub next : Layer
  pub stepped : ℕ
  pub at : ℕ

-- a set with the words that lead to it, one entry for each path
pub record Source : Type 0 where
  pub set : ℕ
  pub words : List Word

abbrev pub source_of : List NamedLink → ℕ × ℕ → Source
source_of cells p = record { set = p.0; words = words cells p.1 }

-- the sets of the layer that are still to be stepped
abbrev pub sources : Graph → List Source
sources g = map (source_of g.cells) (drop g.stepped g.layer)

-- the sets of the next layer
abbrev pub targets : Graph → List Source
targets g = map (source_of g.cells) g.next

abbrev pub sets_of : Layer → List ℕ
sets_of layer = map (λ (p : ℕ × ℕ). p.0) layer

-- w is a word of the set s
abbrev pub HasWord : List Source → ℕ → Word → Type 0
HasWord sets s w = (x : Source) × Has sets x × (x.set ≡ s) × Has x.words w

-- an edge leads to s
abbrev pub LeadsTo : Edges → ℕ → Type 0
LeadsTo edges s = (e : ℕ × ℕ) × Has edges e × (e.1 ≡ s)

-- w is one of these words, followed by the block of an edge that leads to s
abbrev pub Brings : List Word → ℕ → Edges → ℕ → Word → Type 0
Brings ws at edges s w = (e : ℕ × ℕ) × (u : Word) × Has edges e × (e.1 ≡ s) × Has ws u × (u ++ mark_block at e.0 ≡ w)

-- the position is past those of the words
abbrev pub IsPast : List Source → ℕ → Type 0
IsPast sets at = (s : ℕ) (w : Word) (x : ℕ × ℕ) → HasWord sets s w → Has w x → x.0 < at

-- all sources of a layer are stepped at one position, past those of its words
abbrev pub IsPlace : Graph → ℕ → Type 0
IsPlace g at = ((g.stepped ≡ 0) × IsPast (sources g) at) ⊎ ((0 < g.stepped) × (g.at ≡ at))

-- the first source that is left is stepped at a position
pub record IsStepped (old : Graph) (at : ℕ) (edges : Edges) (new : Graph) : Type 0 where
  pub layer : new.layer ≡ old.layer
  pub stepped : new.stepped ≡ old.stepped + 1
  pub place : new.at ≡ at
  pub left : (x : Source) × (sources old ≡ x ∷ sources new)
      × ((s : ℕ) (w : Word) → HasWord (targets new) s w ↔ (HasWord (targets old) s w ⊎ Brings x.words at edges s w))
  pub reached : (s : ℕ) → Has (sets_of new.next) s ↔ (Has (sets_of old.next) s ⊎ LeadsTo edges s)
  pub few : length new.next ≤ length old.next + length edges
  -- a lone edge without marks to a set that has no cell yet makes none
  pub hands_on : (to : ℕ) → edges ≡ (0, to) ∷ [] → (Has (sets_of old.next) to → ⊥) → length new.cells ≤ length old.cells

-- what edges cost: each makes one new cell at most, and `freed` cells are given back; so much is counted before and after
pub record IsCost (edges old new before after : ℕ) : Type 0 where
  pub made : ℕ
  pub freed : ℕ
  pub few : made ≤ edges
  pub balance : new + freed ≡ old + made
  pub bound : after ≤ before + 2 * edges + 2 + freed

-- what always holds of the sets and their words
pub record AreApart (sets : List Source) : Type 0 where
  pub distinct : AreDistinct (map (λ (x : Source). x.set) sets)
  pub one_path : (x : Source) → Has sets x → AreDistinct x.words
  pub apart : (s r : ℕ) (w : Word) → HasWord sets s w → HasWord sets r w → s ≡ r

-- c is the cell of a set, or a cell that is reached names it
pub data IsReached (g : Graph) : ℕ → Type 0 where
  by_source : {c : ℕ} → (p : ℕ × ℕ) → Has (drop g.stepped g.layer) p → p.1 ≡ c → IsReached g c
  by_target : {c : ℕ} → (p : ℕ × ℕ) → Has g.next p → p.1 ≡ c → IsReached g c
  by_cell : {c : ℕ} → (l : NamedLink) → Has g.cells l → Names l c → IsReached g l.name → IsReached g c
