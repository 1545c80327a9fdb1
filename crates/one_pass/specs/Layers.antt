-- The sets that are reached at a position, by their place in the layer.
use Rattle.std.specs.Prelude.{ℕ, List, [], ◌∷◌, slice_index_or}
use Rattle.output_graph.specs.Graph.{Source}

abbrev pub no_source : Source
no_source = record { set = 0; words = [] }

abbrev pub source_at : List Source → ℕ → Source
source_at layer k = slice_index_or layer k no_source

-- the one source of a layer at the start: the empty word leads to its set
abbrev pub first_source : ℕ → Source
first_source set = record { set = set; words = [] ∷ [] }
