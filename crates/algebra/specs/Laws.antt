-- Laws of the operations.
use Rattle.std.specs.Prelude.{◌≡◌, ℕ, ◌≤◌, ◌⊎◌, ◌↔◌, Bool, List, length, IsTrue}
use Rattle.marked_automaton.specs.Automaton.{Automaton, Accepts, IsWhole}
use Rattle.marked_automaton.specs.Reduct.{Reduces}
use Rattle.algebra.specs.Operations.{union_of, join_of}

abbrev pub UnionLaw : Type 0
UnionLaw =
    (A B : Automaton) → IsWhole A → IsWhole B → (d : List ℕ) (w : ℕ → ℕ) →
    Accepts (union_of A B) d w ↔ (Accepts A d w ⊎ Accepts B d w)

abbrev pub JoinLaw : (ℕ → ℕ → Bool) → (ℕ → ℕ → ℕ) → Type 0
JoinLaw agree both =
    (A B : Automaton) → IsWhole A → IsWhole B → (d : List ℕ) (w : ℕ → ℕ) →
    Accepts (join_of agree both A B) d w
    ↔ ((u : ℕ → ℕ) × (v : ℕ → ℕ) × Accepts A d u × Accepts B d v
    × ((p : ℕ) → p ≤ length d → IsTrue (agree (u p) (v p)) × (w p ≡ both (u p) (v p))))

abbrev pub JoinLaws : Type 0
JoinLaws = (agree : ℕ → ℕ → Bool) (both : ℕ → ℕ → ℕ) → JoinLaw agree both

-- the operations of reducts give reducts of the operations
abbrev pub ReductOfUnion : Type 0
ReductOfUnion =
    (A1 B1 A2 B2 : Automaton) → IsWhole A1 → IsWhole B1 → IsWhole A2 → IsWhole B2 →
    Reduces A1 B1 → Reduces A2 B2 → Reduces (union_of A1 A2) (union_of B1 B2)

abbrev pub ReductOfJoin : Type 0
ReductOfJoin =
    (agree : ℕ → ℕ → Bool) (both : ℕ → ℕ → ℕ) (A1 B1 A2 B2 : Automaton) →
    IsWhole A1 → IsWhole B1 → IsWhole A2 → IsWhole B2 →
    Reduces A1 B1 → Reduces A2 B2 → Reduces (join_of agree both A1 A2) (join_of agree both B1 B2)
