-- Automata that only wait outside of some positions.
use Rattle.std.specs.Prelude.{◌≡◌, ℕ, zero, suc, ◌+◌, Bool, false, List, length}
use Rattle.span_core.specs.Lists.{Has}
use Rattle.marked_automaton.specs.declared.way.Way.{Way}
use Rattle.marked_automaton.specs.declared.way.Stop.{Stop}
use Rattle.marked_automaton.specs.Automaton.{Automaton, ReadsByte, idle_way}

-- so many ways from the position i on lead from p to q, whatever they take
abbrev pub Passes : List Way → List ℕ → ℕ → ℕ → ℕ → ℕ → Type 0
Passes ways d i zero p q = p ≡ q
Passes ways d i (suc n) p q =
    (y : Way) × Has ways y × (y.from ≡ p) × ReadsByte d i y.bytes × Passes ways d (suc i) n y.to q

-- the bytes before the position i lead from a start to p
abbrev pub IsLed : Automaton → List ℕ → ℕ → ℕ → Type 0
IsLed A d i p = (s : ℕ) × Has A.starts s × Passes A.ways d 0 i s p

-- the bytes from the position i on lead from p to an end
abbrev pub LeadsOut : Automaton → List ℕ → ℕ → ℕ → Type 0
LeadsOut A d i p =
    (n : ℕ) × (x : Stop) × (i + n ≡ length d) × Has A.stops x × Passes A.ways d i n p x.state

-- each accepting walk is in an idle state at each position that is not in K, and its way there takes no
-- markers and stays in the state
pub record WaitsOutside (A : Automaton) (d : List ℕ) (K : ℕ → Bool) : Type 0 where
  pub states : (i p : ℕ) → K i ≡ false → IsLed A d i p → LeadsOut A d i p → Has A.idle p
  pub ways : (i : ℕ) (y : Way) → K i ≡ false → Has A.ways y → IsLed A d i y.from → ReadsByte d i y.bytes → LeadsOut A d (suc i) y.to →
      (y.marks ≡ 0) × (y.to ≡ y.from)

-- each idle state has its way to itself
abbrev pub HasIdleWays : Automaton → Type 0
HasIdleWays A = (p : ℕ) → Has A.idle p → Has A.ways (idle_way p)
