-- What a whole layer does: the edges of each of its sources, with the place of each target in the next layer.
use Rattle.std.specs.Prelude.{◌≡◌, ℕ, suc, ◌≤◌, List, [], ◌∷◌, map, take, drop, length, if◌then◌else◌, nat_eq}
use Rattle.output_graph.specs.declared.program.Move.{Move}
use Rattle.output_graph.specs.Source.{Edges, Descend}
use Rattle.output_graph.specs.Graph.{AreApart, Graph, IsCost, IsStepped, sources, targets}

-- what contracts see of a program: the edges of each source, and the sets of the next layer in their order
pub record Steps : Type 0 where
  pub groups : List Edges
  pub targets : List ℕ

abbrev pub steps_of : List Edges → List ℕ → Steps
steps_of groups targets = record { groups = groups; targets = targets }

-- the place of a set, which is the end where it is not there
abbrev pub place_in : List ℕ → ℕ → ℕ
place_in [] s = 0
place_in (t ∷ sets) s = if nat_eq t s then 0 else suc (place_in sets s)

-- the sets with one more, unless it is there
abbrev pub with_target : List ℕ → ℕ → List ℕ
with_target [] s = s ∷ []
with_target (t ∷ sets) s = if nat_eq t s then t ∷ sets else t ∷ with_target sets s

abbrev pub edge_in : Move → ℕ × ℕ
edge_in m = (m.marks, m.to)

abbrev pub edges_in : List Move → Edges
edges_in moves = map edge_in moves

-- the sets once these moves are made
abbrev pub targets_from : List ℕ → List Move → List ℕ
targets_from sets [] = sets
targets_from sets (m ∷ moves) = targets_from (with_target sets m.to) moves

-- each move knows the place of its target among the sets that are there when it is made
abbrev pub ArePlaced : List ℕ → List Move → Type 0
ArePlaced sets [] = Unit {0}
ArePlaced sets (m ∷ moves) = (m.place ≡ place_in sets m.to) × ArePlaced (with_target sets m.to) moves

-- the first so many, the next so many, ..
abbrev pub cut : List ℕ → Edges → List Edges
cut [] edges = []
cut (n ∷ counts) edges = take n edges ∷ cut counts (drop n edges)

-- there are just so many
abbrev pub AreCounted : List ℕ → Edges → Type 0
AreCounted [] edges = edges ≡ []
AreCounted (n ∷ counts) edges = (n ≤ length edges) × AreCounted counts (drop n edges)

abbrev pub AllDescend : List Edges → Type 0
AllDescend [] = Unit {0}
AllDescend (edges ∷ groups) = Descend edges × AllDescend groups

-- the sources that are left are stepped at a position, one after another, each by its edges; so much is counted before and after
abbrev pub AreStepped : Graph → ℕ → List Edges → Graph → ℕ → ℕ → Type 0
AreStepped g at [] h before after = (g ≡ h) × (before ≡ after)
AreStepped g at (edges ∷ groups) h before after =
    (m : Graph) × (middle : ℕ) × IsStepped g at edges m × IsCost (length edges) (length g.cells) (length m.cells) before middle × AreApart (targets m)
    × AreStepped m at groups h middle after

-- all sources have been stepped, and the next layer is the layer
pub record IsNext (all new : Graph) : Type 0 where
  pub every : all.stepped ≡ length all.layer
  pub cells : new.cells ≡ all.cells
  pub layer : new.layer ≡ all.next
  pub next : new.next ≡ []
  pub stepped : new.stepped ≡ 0
  pub sources : sources new ≡ targets all
  pub targets : targets new ≡ []

-- the layer has been stepped by a program
abbrev pub IsRun : Graph → ℕ → List Edges → Graph → ℕ → ℕ → Type 0
IsRun old at groups new before after = (all : Graph) × AreStepped old at groups all before after × IsNext all new
