-- What contracts see of a reading.
use Rattle.std.specs.Prelude.{ℕ, List, refl}
use Rattle.std.specs.Coded.{Coded, code_by, coded×, coded_list, coded_ℕ}
use Rattle.node_arena.specs.Cells.{NamedLink, link_code}
use Rattle.output_graph.specs.Forward.{Layer}
use Rattle.output_graph.specs.Graph.{Graph}
use Rattle.set_table.specs.Codes.{tabled_code}
use Rattle.set_table.specs.Tabled.{Tabled}

-- what was read so far: the table, the graph of the words that lead to its sets, and the position that is read next
pub record SoFar : Type 0 where
  pub table : Tabled
  pub graph : Graph
  pub at : ℕ

abbrev pub layer_code : Coded Layer
layer_code = coded_list (coded× coded_ℕ coded_ℕ)

abbrev pub graph_code : Coded Graph
graph_code =
    code_by (List NamedLink × (Layer × (Layer × (ℕ × ℕ)))) (coded× (coded_list link_code) (coded× layer_code (coded× layer_code (coded× coded_ℕ coded_ℕ))))
    (λ g. (g.cells, (g.layer, (g.next, (g.stepped, g.at))))) (λ p. record { cells = p.0; layer = p.1.0; next = p.1.1.0; stepped = p.1.1.1.0; at = p.1.1.1.1 }) (λ _. refl)

abbrev pub so_far_code : Coded SoFar
so_far_code =
    code_by (Tabled × (Graph × ℕ)) (coded× tabled_code (coded× graph_code coded_ℕ))
    (λ r. (r.table, (r.graph, r.at))) (λ p. record { table = p.0; graph = p.1.0; at = p.1.1 }) (λ _. refl)
