-- How the cells are kept: a node in a slot for each, with the numbers of its neighbours by age.
use Rattle.std.specs.Prelude.{◌≡◌, ◌⊎◌, ℕ, zero, suc, ◌+◌, ◌-◌, ◌<◌, ◌≤◌, List, [], ◌∷◌, length, Option, Some, None, IsSome, if◌then◌else◌, nat_eq, nat_lt}
use Rattle.std.specs.Ordering.{nat_cmp}
use Rattle.std.specs.FinMap as map
use Rattle.node_arena.specs.declared.TheConstants.{NONE, MOST_CELLS, MOST_HOLDS}
use Rattle.node_arena.specs.declared.node.Node.{Node}
use Rattle.span_core.specs.Lists.{Has}
use Rattle.node_arena.specs.Cells.{NamedLink, Holds, Cells, HasCell, IsNamed, AreLinked, hold, with_hold}

abbrev pub Nodes : Type 0
Nodes = map.FinMap nat_cmp Node

abbrev pub number_of : Option ℕ → ℕ
number_of None = NONE
number_of (Some c) = c

abbrev pub name_of : ℕ → Option ℕ
name_of n = if nat_eq n NONE then None else Some n

-- the number of the newest cell
abbrev pub first_of : List NamedLink → ℕ
first_of [] = NONE
first_of (l ∷ older) = l.name

abbrev pub node_of : ℕ → ℕ → ℕ → NamedLink → Node
node_of count newer older l =
    record { at = l.at; marks = l.marks; from = number_of l.from; also = number_of l.also; count = count; older = older; newer = newer }

-- the node of c, where `newer` is the number of the next newer cell
abbrev pub node_at : (ℕ → ℕ) → ℕ → List NamedLink → ℕ → Option Node
node_at count newer [] c = None
node_at count newer (l ∷ older) c = if nat_eq l.name c then Some (node_of (count c) newer (first_of older) l) else node_at count l.name older c

-- each slot has the node of its cell, and no other slot is in use
abbrev pub AreNodes : Nodes → (ℕ → ℕ) → ℕ → List NamedLink → Type 0
AreNodes nodes count newer cells = (c : ℕ) → map.get nodes c ≡ node_at count newer cells c

abbrev pub names_once : Option ℕ → ℕ → ℕ
names_once None c = 0
names_once (Some d) c = if nat_eq d c then 1 else 0

-- how often links name c
abbrev pub named_times : List NamedLink → ℕ → ℕ
named_times [] c = 0
named_times (l ∷ older) c = names_once l.from c + names_once l.also c + named_times older c

-- the count of c: its holds and the links that name it
abbrev pub count_of : Holds → List NamedLink → ℕ → ℕ
count_of holds cells c = hold holds c + named_times cells c

abbrev pub some_positive : ℕ → Option ℕ
some_positive n = if nat_eq n 0 then None else Some n

-- the nodes keep these cells
pub record IsKept (nodes : Nodes) (newest live : ℕ) (v : Cells) : Type 0 where
  pub stored : AreNodes nodes (count_of v.holds v.cells) NONE v.cells
  pub first : newest ≡ first_of v.cells
  pub number : live ≡ length v.cells
  pub linked : AreLinked v.cells
  pub small : (c : ℕ) → HasCell v.cells c → c < MOST_CELLS
  pub held_there : (c : ℕ) → 0 < hold v.holds c → HasCell v.cells c
  pub proper : (c : ℕ) → map.get v.holds c ≡ some_positive (hold v.holds c)
  pub few : (c : ℕ) → hold v.holds c ≤ MOST_HOLDS
  pub kept : (c : ℕ) → HasCell v.cells c → (0 < hold v.holds c) ⊎ IsNamed v.cells c

abbrev pub link_of : ℕ → Node → NamedLink
link_of c n = record { name = c; at = n.at; marks = n.marks; from = name_of n.from; also = name_of n.also }

abbrev pub cell_before : Option Node → ℕ → (ℕ → List NamedLink) → List NamedLink
cell_before None c rest = []
cell_before (Some n) c rest = link_of c n ∷ rest n.older

-- the cells from c on, of which there are so many
unfoldable pub cells_from : ℕ → Nodes → ℕ → List NamedLink
cells_from zero nodes c = []
cells_from (suc n) nodes c = cell_before (map.get nodes c) c (λ d. cells_from n nodes d)

abbrev pub count_in : Option Node → ℕ
count_in None = 0
count_in (Some n) = n.count

-- the holds of these cells: what of their counts is not names
unfoldable pub holds_of : Nodes → List NamedLink → List NamedLink → Holds
holds_of nodes all [] = map.empty
holds_of nodes all (l ∷ older) = with_hold (holds_of nodes all older) l.name (count_in (map.get nodes l.name) - named_times all l.name)

abbrev pub seen : Nodes → ℕ → ℕ → ℕ → Cells
seen nodes spare newest live =
    let cells = cells_from live nodes newest in
    record { cells = cells; holds = holds_of nodes cells cells; spare = spare }

abbrev pub put_more : Nodes → ℕ → Option Node → Nodes
put_more nodes c None = nodes
put_more nodes c (Some n) = map.insert nodes c (record n { count = n.count + 1 })

abbrev pub put_older : Nodes → ℕ → ℕ → Option Node → Nodes
put_older nodes c older None = nodes
put_older nodes c older (Some n) = map.insert nodes c (record n { older = older })

abbrev pub put_newer : Nodes → ℕ → ℕ → Option Node → Nodes
put_newer nodes c newer None = nodes
put_newer nodes c newer (Some n) = map.insert nodes c (record n { newer = newer })

-- the count of c rises by 1
abbrev pub raised : Nodes → ℕ → Nodes
raised nodes c = put_more nodes c (map.get nodes c)

-- the next older cell of c is `older`
abbrev pub with_older : Nodes → ℕ → ℕ → Nodes
with_older nodes c older = put_older nodes c older (map.get nodes c)

-- the next newer cell of c is `newer`
abbrev pub with_newer : Nodes → ℕ → ℕ → Nodes
with_newer nodes c newer = put_newer nodes c newer (map.get nodes c)

-- a node of c, where the next older cell of d is `older`
abbrev pub older_at : ℕ → ℕ → ℕ → Node → Node
older_at d older c n = record n { older = if nat_eq d c then older else n.older }

abbrev pub newer_at : ℕ → ℕ → ℕ → Node → Node
newer_at d newer c n = record n { newer = if nat_eq d c then newer else n.newer }

-- the nodes without c, whose node was n, and its neighbours joined
abbrev pub unlinked : Nodes → ℕ → Node → Nodes
unlinked nodes c n = with_newer (with_older (map.remove nodes c) n.newer n.older) n.older n.newer

-- one hold or name of c less: a cell that has none left keeps in its count the number of the next one that waits
abbrev pub lowered_by : Nodes → ℕ → ℕ → Option Node → Nodes × ℕ
lowered_by nodes c pending None = (nodes, pending)
lowered_by nodes c pending (Some n) =
    if nat_lt 1 n.count
    then (map.insert nodes c (record n { count = n.count - 1 }), pending)
    else (map.insert nodes c (record n { count = pending }), c)

abbrev pub lowered : Nodes → ℕ → ℕ → Nodes × ℕ
lowered nodes c pending = lowered_by nodes c pending (map.get nodes c)

-- c has a node, or it is the number of no cell
abbrev pub IsEnd : Nodes → ℕ → Type 0
IsEnd nodes c = (c ≡ NONE → map.get nodes c ≡ None) × ((c ≡ NONE → ⊥) → IsSome (map.get nodes c))

-- the number of the cell that waits first
abbrev pub first_waiting : List ℕ → ℕ
first_waiting [] = NONE
first_waiting (c ∷ waiting) = c

-- what the counts keep while cells wait: each that waits keeps the number of the next one
abbrev pub threaded : List ℕ → (ℕ → ℕ) → ℕ → ℕ
threaded [] count c = count c
threaded (p ∷ waiting) count c = if nat_eq p c then first_waiting waiting else threaded waiting count c

-- these wait: cells with the count 0, each once
abbrev pub AreWaiting : (ℕ → ℕ) → List NamedLink → List ℕ → Type 0
AreWaiting count cells [] = Unit {0}
AreWaiting count cells (p ∷ waiting) = HasCell cells p × (count p ≡ 0) × (Has waiting p → ⊥) × AreWaiting count cells waiting

-- the nodes of these cells, of which those with the count 0 wait
pub record Stored (nodes : Nodes) (count : ℕ → ℕ) (cells : List NamedLink) (waiting : List ℕ) : Type 0 where
  pub nodes_are : AreNodes nodes (threaded waiting count) NONE cells
  pub each : AreWaiting count cells waiting
  pub all : (c : ℕ) → HasCell cells c → count c ≡ 0 → Has waiting c
