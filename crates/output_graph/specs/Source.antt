-- The edges of one source, one after another.
use Rattle.std.specs.Prelude.{◌≡◌, ℕ, ◌<◌, List, [], ◌∷◌}
use Rattle.span_core.specs.Lists.{Has}
use Rattle.node_arena.specs.Words.{Word}
use Rattle.node_arena.specs.Cells.{NamedLink}
use Rattle.output_graph.specs.Forward.{Layer, Choice, Stepping, Growing, ComesNext}

-- an edge: its marks and its target
abbrev pub Edges : Type 0
Edges = List (ℕ × ℕ)

abbrev pub Descend : Edges → Type 0
Descend [] = Unit {0}
Descend (e ∷ edges) = ((f : ℕ × ℕ) → Has edges f → f.0 < e.0) × Descend edges

-- the choices of these edges, the first of them last
abbrev pub with_choices : ℕ → Edges → List Choice → List Choice
with_choices c [] done = done
with_choices c (e ∷ edges) done = with_choices c edges (record { cell = c; marks = e.0; to = e.1 } ∷ done)

-- the source c has these edges left, and the sources `after` all of theirs
pub record InSource (sources after : List ℕ) (W : ℕ → List Word) (at c : ℕ) (edges : Edges) (done : List Choice) (cells : List NamedLink) (next : Layer) : Type 0 where
  pub stepping : Stepping sources (c ∷ after) W at done cells next
  pub growing : Growing (c ∷ after) at cells next
  pub is_source : Has sources c
  pub not_after : Has after c → ⊥
  pub descend : Descend edges
  pub comes : (e : ℕ × ℕ) → Has edges e → ComesNext cells c at e.0
  pub comes_later : (b marks : ℕ) → Has after b → ComesNext cells b at marks
  pub above : (d : Choice) (e : ℕ × ℕ) → Has done d → d.cell ≡ c → Has edges e → e.0 < d.marks
  pub finished : (d : Choice) → Has done d → Has after d.cell → ⊥

-- between two sources of a step: those of `left` have all their edges left
pub record Between (sources left : List ℕ) (W : ℕ → List Word) (at : ℕ) (done : List Choice) (cells : List NamedLink) (next : Layer) : Type 0 where
  pub stepping : Stepping sources left W at done cells next
  pub growing : Growing left at cells next
  pub comes : (b marks : ℕ) → Has left b → ComesNext cells b at marks
  pub finished : (d : Choice) → Has done d → Has left d.cell → ⊥
