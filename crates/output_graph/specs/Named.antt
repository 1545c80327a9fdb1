-- A layer by other names: the same cells, in their order, under other sets.
use Rattle.std.specs.Prelude.{ℕ, List, [], ◌∷◌, map}
use Rattle.output_graph.specs.Forward.{Layer}
use Rattle.output_graph.specs.Graph.{Graph}
use Rattle.output_graph.specs.Source.{Edges}

abbrev pub named : List ℕ → Layer → Layer
named [] layer = []
named (s ∷ sets) [] = []
named (s ∷ sets) (p ∷ layer) = (s, p.1) ∷ named sets layer

-- the graph with these sets in its layer
abbrev pub renamed : List ℕ → Graph → Graph
renamed sets g = record { cells = g.cells; layer = named sets g.layer; next = g.next; stepped = g.stepped; at = g.at }

-- the one edge of a source that hands its cell on to a set
abbrev pub handing_to : ℕ → Edges
handing_to s = (0, s) ∷ []

-- each source hands its cell on to the set at its place
abbrev pub handing : List ℕ → List Edges
handing sets = map handing_to sets
