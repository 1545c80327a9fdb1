-- What is kept of the ways of a state: runs of them, each with the bytes that its ways take, and where they lead on a byte.
use Rattle.std.specs.Prelude.{◌≡◌, ℕ, ◌/◌, ◌%◌, ◌≤◌, ◌⊎◌, ◌↔◌, List, [], ◌∷◌, take, drop, nat_eq, Some}
use Rattle.std.specs.Global.{Vec}
use Rattle.span_core.specs.Lists.{Has}
use Rattle.indexmap.specs.IndexMap.{IndexMap, get}
use Rattle.marked_automaton.specs.declared.way.Way.{Way}
use Rattle.marked_automaton.specs.Automaton.{ByteClass, HasByte, ways_from}
use Rattle.set_table.specs.Cut.{codes_at}
use Rattle.set_table.specs.declared.parts.Part.{Part}
use Rattle.set_table.specs.declared.way_runs.WayRuns.{WayRuns}

-- each byte that one of the ways takes is one of these
abbrev pub Bounds : ByteClass → List Way → Type 0
Bounds bytes ways = (y : Way) (b : ℕ) → Has ways y → HasByte y.bytes b → HasByte bytes b

-- for each 64 ways in turn such bytes
abbrev pub AreRuns : List Way → List ByteClass → Type 0
AreRuns ways [] = ways ≡ []
AreRuns ways (bytes ∷ runs) = Bounds bytes (take 64 ways) × AreRuns (drop 64 ways) runs

-- the number is one of this block of 256, and its place in the block is one of these
abbrev pub IsPlaced : ℕ → ByteClass → ℕ → Type 0
IsPlaced k places n = (k ≡ n / 256) × HasByte places (n % 256)

-- the number is of one of the parts
abbrev pub IsIn : List Part → ℕ → Type 0
IsIn parts n = (x : Part) × Has parts x × IsPlaced (x.first / 256) x.places n

-- none of the places lies outside of the part's bounds
abbrev pub IsBounded : ℕ → ℕ → ByteClass → Type 0
IsBounded low high places = (q : ℕ) → HasByte places q → (low ≤ q) × (q ≤ high)

-- the parts are of these numbers
pub record ArePartsOf (parts : List Part) (codes : List ℕ) : Type 0 where
  pub same : (n : ℕ) → IsIn parts n ↔ Has codes n
  pub bounded : (x : Part) → Has parts x → IsBounded x.low x.high x.places

-- the numbers that are new are those of which P holds
pub record Gains (old new : List ℕ) (P : ℕ → Type 0) : Type 0 where
  pub kept : (n : ℕ) → Has old n → Has new n
  pub there : (n : ℕ) → P n → Has new n
  pub only : (n : ℕ) → Has new n → Has old n ⊎ P n

-- what was seen of each block is among the numbers
abbrev pub AreSeen : {S : Type 0} → IndexMap ℕ ByteClass S → List ℕ → Type 0
AreSeen seen codes = (k n : ℕ) (places : ByteClass) → get nat_eq seen k ≡ Some places → IsPlaced k places n → Has codes n

-- what is kept of a state are the runs of its ways, and of a state and a byte the numbers of its ways that take the byte
pub record AreIndexed (ways : List Way) (x : WayRuns) : Type 0 where
  pub runs : (p : ℕ) (runs : Vec ByteClass) → get nat_eq x.of_states p ≡ Some runs → AreRuns (ways_from ways p) runs.items
  pub parts : (k : ℕ) (parts : Vec Part) → get nat_eq x.of_bytes k ≡ Some parts → ArePartsOf parts.items (codes_at ways (k % 256) (k / 256))
