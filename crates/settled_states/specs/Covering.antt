-- The bytes on which ways without marks lead to some of the states.
use Rattle.std.specs.Prelude.{◌≡◌, ℕ, ◌<◌, ◌↔◌, Bool, IsTrue, List, slice_index_or}
use Rattle.std.specs.FinSet as set
use Rattle.span_core.specs.Lists.{Has}
use Rattle.marked_automaton.specs.Automaton.{ByteClass, HasByte}
use Rattle.marked_automaton.specs.Reach.{IsFlagged}
use Rattle.marked_automaton.specs.declared.way.Way.{Way}

-- on each byte one of the ways leads from the state to one of these, without marks
abbrev pub LeadsInto : List Way → (ℕ → Type 0) → ℕ → Type 0
LeadsInto ways Y q = (b : ℕ) → b < 256 → (y : Way) × Has ways y × (y.from ≡ q) × HasByte y.bytes b × (y.marks ≡ 0) × Y y.to

-- the way has no marks, and leads to a state whose flag is set
pub record LeadsPlainly (flags : List Bool) (y : Way) : Type 0 where
  pub marks : y.marks ≡ 0
  pub good : IsFlagged flags y.to

-- each state's set has the bytes of such ways from it, and no other
abbrev pub AreBytesInto : List Way → List Bool → List ByteClass → Type 0
AreBytesInto ways good sets =
    (q b : ℕ) → HasByte (slice_index_or sets q set.empty) b ↔ ((y : Way) × Has ways y × (y.from ≡ q) × LeadsPlainly good y × HasByte y.bytes b)

abbrev pub HasEachByte : ByteClass → Type 0
HasEachByte bytes = (b : ℕ) → b < 256 → HasByte bytes b

-- the flag is set, and the set does not have each byte
pub record IsUncovered (flag : Bool) (bytes : ByteClass) : Type 0 where
  pub flagged : IsTrue flag
  pub lacks : ¬ HasEachByte bytes
