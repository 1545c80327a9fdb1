-- What contracts see of a list of sets.
use Rattle.std.specs.Prelude.{◌≡◌, ℕ, List, [], ◌∷◌, map, slice_get, Some}
use Rattle.output_graph.specs.Forward.{Layer}

-- the sets with their cells, how many more it can take, and below which number
pub record Sets : Type 0 where
  pub pairs : Layer
  pub room : ℕ
  pub known : ℕ

abbrev pub HasNot : Layer → ℕ → Type 0
HasNot pairs s = (k : ℕ) (p : ℕ × ℕ) → slice_get pairs k ≡ Some p → p.0 ≡ s → ⊥

-- each set's place is found by its number
abbrev pub IsIndexed : Layer → List ℕ → Type 0
IsIndexed pairs places = (k : ℕ) (p : ℕ × ℕ) → slice_get pairs k ≡ Some p → slice_get places p.0 ≡ Some k

-- the cells of the sets
abbrev pub cells_in : Layer → List ℕ
cells_in pairs = map (λ (p : ℕ × ℕ). p.1) pairs

-- each set with the cell at its place
abbrev pub paired : Layer → List ℕ → Layer
paired [] cells = []
paired (p ∷ pairs) [] = []
paired (p ∷ pairs) (c ∷ cells) = (p.0, c) ∷ paired pairs cells
