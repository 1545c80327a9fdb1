-- States from which nothing more comes, and states that stay.
use Rattle.std.specs.Prelude.{◌≡◌, ℕ, zero, suc, ◌<◌, ◌⊎◌, Bool, IsTrue, List}
use Rattle.span_core.specs.Lists.{Has}
use Rattle.marked_automaton.specs.Automaton.{Automaton, HasByte}
use Rattle.marked_automaton.specs.declared.way.Stop.{Stop}
use Rattle.marked_automaton.specs.declared.way.Way.{Way}

-- from these states no marks are taken: their ways and ends have none, and their ways lead to such
pub record AreSpent (A : Automaton) (X : ℕ → Type 0) : Type 0 where
  pub ways : (y : Way) → Has A.ways y → X y.from → (y.marks ≡ 0) × X y.to
  pub ends : (x : Stop) → Has A.stops x → X x.state → x.marks ≡ 0

-- these states have an end without marks, and on each byte a way without marks to such a state
pub record AreLasting (A : Automaton) (Y : ℕ → Type 0) : Type 0 where
  pub ways : (q b : ℕ) → Y q → b < 256 → (y : Way) × Has A.ways y × (y.from ≡ q) × HasByte y.bytes b × (y.marks ≡ 0) × Y y.to
  pub ends : (q : ℕ) → Y q → (x : Stop) × Has A.stops x × (x.state ≡ q) × (x.marks ≡ 0)

-- a set of states that is told by a function
abbrev pub Told : (ℕ → Bool) → ℕ → Type 0
Told x q = IsTrue (x q)

-- ---- marks that can still be taken

-- one of the ways has marks, and leads from the state
abbrev pub HasMarkedWay : List Way → ℕ → Type 0
HasMarkedWay ways q = (y : Way) × Has ways y × (y.from ≡ q) × (y.marks ≡ 0 → ⊥)

-- one of the ends has marks, and is the state's
abbrev pub HasMarkedEnd : List Stop → ℕ → Type 0
HasMarkedEnd stops q = (x : Stop) × Has stops x × (x.state ≡ q) × (x.marks ≡ 0 → ⊥)

-- so many ways lead from the state to one that has a way or an end with marks
abbrev pub LeadsToMarks : List Way → List Stop → ℕ → ℕ → Type 0
LeadsToMarks ways stops zero q = HasMarkedWay ways q ⊎ HasMarkedEnd stops q
LeadsToMarks ways stops (suc n) q = (y : Way) × Has ways y × (y.from ≡ q) × LeadsToMarks ways stops n y.to

abbrev pub MayTakeMarks : Automaton → ℕ → Type 0
MayTakeMarks A q = (n : ℕ) × LeadsToMarks A.ways A.stops n q
