-- Which positions of a document an atom touches.
use Rattle.std.specs.Prelude.{◌≡◌, ℕ, ◌≤◌, ◌↔◌, Bool, List, length, IsTrue}
use Rattle.spanner_model.specs.Captures.{Captures}
use Rattle.spanner_model.specs.Fit.{Fit}
use Rattle.spanner_model.specs.Expression.{AtomTree}

-- some part, tied as the atom says, fits, and the position is from its start to its end, both included
abbrev pub IsTouchedBy : AtomTree → List ℕ → ℕ → Type 0
IsTouchedBy t d i =
    (a : ℕ) × (b : ℕ) × (c : Captures) × Fit t.formula d a b c × (b ≤ length d)
    × (IsTrue t.from_start → a ≡ 0) × (IsTrue t.to_end → b ≡ length d) × (a ≤ i) × (i ≤ b)

-- K has each position that is P
abbrev pub Contains : (ℕ → Bool) → (ℕ → Type 0) → Type 0
Contains K P = (i : ℕ) → P i → IsTrue (K i)

-- K has these positions, and no others
abbrev pub IsSetOf : (ℕ → Bool) → (ℕ → Type 0) → Type 0
IsSetOf K P = (i : ℕ) → IsTrue (K i) ↔ P i
