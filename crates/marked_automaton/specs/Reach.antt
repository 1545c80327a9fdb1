-- What is reached over the edges of a graph, and how a search grows.
use Rattle.std.specs.Prelude.{◌≡◌, ℕ, zero, suc, ◌+◌, ◌⊎◌, ◌↔◌, Some, slice_get, Vec, Bool, false, IsTrue, List, [], ◌∷◌, length, slice_index_or, if◌then◌else◌}
use Rattle.std.specs.Global.{Global}
use Rattle.span_core.specs.Lists.{Has}
use Rattle.marked_automaton.specs.declared.reach.Edge.{Edge}

-- the flag at p is set
abbrev pub IsFlagged : List Bool → ℕ → Type 0
IsFlagged flags p = IsTrue (slice_index_or flags p false)

-- so many edges lead from a seed to p
abbrev pub ReachesIn : List Edge → List ℕ → ℕ → ℕ → Type 0
ReachesIn edges seeds zero p = Has seeds p
ReachesIn edges seeds (suc n) p = (e : Edge) × Has edges e × ReachesIn edges seeds n e.from × (e.to ≡ p)

abbrev pub Reaches : List Edge → List ℕ → ℕ → Type 0
Reaches edges seeds p = (n : ℕ) × ReachesIn edges seeds n p

-- how many flags are not set
abbrev pub unset : List Bool → ℕ
unset [] = 0
unset (b ∷ flags) = (if b then 0 else 1) + unset flags

-- some edge leads from the node to p
abbrev pub LeadsOn : List Edge → ℕ → ℕ → Type 0
LeadsOn edges node p = (e : Edge) × Has edges e × (e.from ≡ node) × (e.to ≡ p)

-- each node's list has what the edges from the node lead to, and nothing else
abbrev pub AreTargets : List Edge → List (Vec ℕ Global) → Type 0
AreTargets edges lists = (p : ℕ) (list : Vec ℕ Global) → slice_get lists p ≡ Some list → (q : ℕ) → Has list.items q ↔ LeadsOn edges p q

-- more is found, all of it P, and what is new waits
pub record Grows (P : ℕ → Type 0) (found : List Bool) (waiting : List ℕ) (found2 : List Bool) (waiting2 : List ℕ) : Type 0 where
  pub len : length found2 ≡ length found
  pub kept : (p : ℕ) → IsFlagged found p → IsFlagged found2 p
  pub only : (p : ℕ) → IsFlagged found2 p → IsFlagged found p ⊎ P p
  pub waits : (p : ℕ) → Has waiting p → Has waiting2 p
  pub flagged : (p : ℕ) → Has waiting2 p → Has waiting p ⊎ IsFlagged found2 p
  pub new_waits : (p : ℕ) → IsFlagged found2 p → IsFlagged found p ⊎ Has waiting2 p
  pub work : unset found2 + length waiting2 ≡ unset found + length waiting

-- what is found is reached, the seeds are found, and what an edge leads to from what is found is found, or is still to come
pub record IsSearch (edges : List Edge) (seeds : List ℕ) (found : List Bool) (waiting : List ℕ) : Type 0 where
  pub sound : (p : ℕ) → IsFlagged found p → Reaches edges seeds p
  pub seeded : (p : ℕ) → Has seeds p → IsFlagged found p
  pub flagged : (p : ℕ) → Has waiting p → IsFlagged found p
  pub closed : (e : Edge) → Has edges e → IsFlagged found e.from → IsFlagged found e.to ⊎ Has waiting e.from
