-- How a copy is made: each cell gets a slot, and then its node is stored there under the numbers of the copies.
use Rattle.std.specs.Prelude.{◌≡◌, ℕ, ◌<◌, Some, IsSome, get_or, length, nat_eq, unwrap_or}
use Rattle.std.specs.FinMap as map
use Rattle.std.specs.HashMap as hash
use Rattle.std.specs.HashMap.{HashMap}
use Rattle.std.specs.declared.hash.FoldHasher.{FoldHasher}
use Rattle.std.specs.declared.hash.BuildHasherDefault.{BuildHasherDefault}
use Rattle.node_arena.specs.declared.TheConstants.{NONE, MOST_CELLS}
use Rattle.node_arena.specs.declared.node.Node.{Node}
use Rattle.node_arena.specs.declared.numbers.Numbers.{Numbers}
use Rattle.node_arena.specs.declared.numbers.Numbers.TheVariants.{Listed, Mapped}
use Rattle.node_arena.specs.Nodes.{Nodes}

-- the number at c, and that of no cell where there is none
abbrev pub mapped_in : HashMap ℕ ℕ (BuildHasherDefault FoldHasher) → ℕ → ℕ
mapped_in numbers c = unwrap_or (hash.get nat_eq numbers c) NONE

-- the number of the copy of the cell c
abbrev pub copy_in : Numbers → ℕ → ℕ
copy_in (Listed numbers) c = get_or numbers.items c NONE
copy_in (Mapped numbers) c = mapped_in numbers c

-- there is room for the number of the copy of c
abbrev pub Covers : Numbers → ℕ → Type 0
Covers (Listed numbers) c = c < length numbers.items
Covers (Mapped numbers) c = Unit {0}

-- the copy of this cell has this number, and each other cell's is as it was
pub record IsPut (old new : Numbers) (cell copy : ℕ) : Type 0 where
  pub here : copy_in new cell ≡ copy
  pub others : (c : ℕ) → (c ≡ cell → ⊥) → copy_in new c ≡ copy_in old c
  pub covers : (c : ℕ) → Covers old c → Covers new c

-- the slots in use are those of the copies of the cells for which P holds, one each
pub record HaveSlots (copy : ℕ → ℕ) (copies : Nodes) (P : ℕ → Type 0) : Type 0 where
  pub in_use : (c : ℕ) → P c → IsSome (map.get copies (copy c))
  pub small : (c : ℕ) → P c → copy c < MOST_CELLS
  pub apart : (c d : ℕ) → P c → P d → copy c ≡ copy d → c ≡ d
  pub only : (q : ℕ) → IsSome (map.get copies q) → (c : ℕ) × P c × (copy c ≡ q)

-- the node of the cell's copy
abbrev pub moved_node : (ℕ → ℕ) → Node → Node
moved_node copy n = record n { from = copy n.from; also = copy n.also; older = copy n.older; newer = copy n.newer }

-- the copies of the cells for which P holds have their nodes
abbrev pub AreMoved : (ℕ → ℕ) → Nodes → Nodes → (ℕ → Type 0) → Type 0
AreMoved copy nodes copies P = (c : ℕ) (n : Node) → P c → map.get nodes c ≡ Some n → map.get copies (copy c) ≡ Some (moved_node copy n)
