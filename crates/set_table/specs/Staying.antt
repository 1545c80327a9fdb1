-- The bytes on which a set of states stays, as they are gathered from ways.
use Rattle.std.specs.Prelude.{◌≡◌, ℕ, ◌<◌, ◌↔◌, List, length, slice_index_or, IsTrue}
use Rattle.std.specs.FinSet as bytes
use Rattle.span_core.specs.Lists.{Has}
use Rattle.marked_automaton.specs.declared.way.Way.{Way}
use Rattle.set_table.specs.declared.staying.Leading.{Leading}

-- one of these ways takes the byte and no marks, and leads to the state
abbrev pub GoesTo : List Way → ℕ → ℕ → Type 0
GoesTo ways q b = (y : Way) × Has ways y × IsTrue (bytes.contains y.bytes b) × (y.marks ≡ 0) × (y.to ≡ q)

-- a way without marks that leads to one of these states
abbrev pub IsInside : List ℕ → Way → Type 0
IsInside members y = (y.marks ≡ 0) × Has members y.to

-- one of these ways takes the byte, and is none of those
abbrev pub GoesElsewhere : List Way → List ℕ → ℕ → Type 0
GoesElsewhere ways members b = (y : Way) × Has ways y × IsTrue (bytes.contains y.bytes b) × ¬ IsInside members y

-- the byte leads to each member, and nowhere else
pub record LeadsBackOn (x : Leading) (b : ℕ) : Type 0 where
  pub to_each : (k : ℕ) → k < length x.to_members.items → IsTrue (bytes.contains (slice_index_or x.to_members.items k bytes.empty) b)
  pub nowhere_else : ¬ IsTrue (bytes.contains x.elsewhere b)

-- gathered from these ways: the bytes that lead elsewhere, and for each member those of the others that lead to it
pub record AreGathered (members : List ℕ) (ways : List Way) (x : Leading) : Type 0 where
  pub count : length x.to_members.items ≡ length members
  pub to_members : (k b : ℕ) → k < length members → ¬ GoesElsewhere ways members b → IsTrue (bytes.contains (slice_index_or x.to_members.items k bytes.empty) b) ↔ GoesTo ways (slice_index_or members k 0) b
  pub elsewhere : (b : ℕ) → IsTrue (bytes.contains x.elsewhere b) ↔ GoesElsewhere ways members b
