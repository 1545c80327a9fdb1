-- What contracts see of row lists.
use Rattle.std.specs.Prelude.{◌<◌, List, refl}
use Rattle.std.specs.Coded.{Coded, code_by, coded×, coded_list}
use Rattle.span_core.specs.Lists.{Has}
use Rattle.node_arena.specs.Rows.{NamedRow, IsThere, row_code, entry_code}
use Rattle.node_arena.specs.declared.row.Entry.{Entry}
use Rattle.output_graph.specs.RowLists.{AreMade, AreLed}

-- the row cells, newest first, and the entry of all rows
pub record Lists : Type 0 where
  pub store : List NamedRow
  pub first : Entry

-- each row cell leads to a row, names older ones, has a block, and stands before all rows of its next
pub record AreLists (v : Lists) : Type 0 where
  pub made : AreMade v.store
  pub led : AreLed v.store
  pub there : IsThere v.store v.first
  pub marked : (r : NamedRow) → Has v.store r → 0 < r.marks

abbrev pub lists_of : List NamedRow → Entry → Lists
lists_of store first = record { store = store; first = first }

abbrev pub lists_code : Coded Lists
lists_code = code_by (List NamedRow × Entry) (coded× (coded_list row_code) entry_code) (λ v. (v.store, v.first)) (λ p. record { store = p.0; first = p.1 }) (λ _. refl)
