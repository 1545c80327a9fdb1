-- The block order of words.
use Rattle.std.specs.Prelude.{◌≡◌, ◌⊎◌, ℕ, ◌+◌, ◌<◌, ◌≤◌, List, [], ◌∷◌}
use Rattle.span_core.specs.Lists.{Has}
use Rattle.node_arena.specs.Words.{Word}

-- the block stands before all that the word has
abbrev pub LeadsBefore : ℕ × ℕ → Word → Type 0
LeadsBefore x [] = Unit {0}
LeadsBefore x (y ∷ w) = (x.0 < y.0) ⊎ ((x.0 ≡ y.0) × (y.1 < x.1))

-- at the first position at which their blocks differ, the first word's block is the greater
abbrev pub Before : Word → Word → Type 0
Before [] v = ⊥
Before (x ∷ w) [] = Unit {0}
Before (x ∷ w) (y ∷ v) = LeadsBefore x (y ∷ v) ⊎ ((x ≡ y) × Before w v)

-- each word stands before each later one
abbrev pub AreInOrder : List Word → Type 0
AreInOrder [] = Unit {0}
AreInOrder (w ∷ ws) = ((v : Word) → Has ws v → Before w v) × AreInOrder ws

-- the positions ascend, from this one on
abbrev pub Ascends : ℕ → Word → Type 0
Ascends n [] = Unit {0}
Ascends n (x ∷ w) = (n ≤ x.0) × Ascends (x.0 + 1) w
