-- Acceptance from a state and a position on.
use Rattle.std.specs.Prelude.{◌≡◌, ℕ, ◌-◌, ◌↔◌, Bool, List, length}
use Rattle.span_core.specs.Lists.{Has}
use Rattle.marked_automaton.specs.declared.way.Way.{Way}
use Rattle.marked_automaton.specs.declared.way.Stop.{Stop}
use Rattle.marked_automaton.specs.Automaton.{HasByte, Walk}
use Rattle.marked_automaton.specs.Reach.{IsFlagged}

-- from p, with the blocks and bytes from the position i on
abbrev pub AcceptsFrom : List Way → List Stop → List ℕ → (ℕ → ℕ) → ℕ → ℕ → Type 0
AcceptsFrom ways stops d w i p =
    (s : Stop) × Has stops s × Walk ways d w i (length d - i) p s.state × (s.marks ≡ w (length d))

-- the flags at the places of the elements that are P, and no others, are set
abbrev pub Gathers : {X : Type 0} → (X → Type 0) → (X → ℕ) → List X → List Bool → Type 0
Gathers {X} P place xs flags = (p : ℕ) → IsFlagged flags p ↔ ((x : X) × Has xs x × (place x ≡ p) × P x)

-- the way takes this block and this byte, to a state whose flag is set
pub record Takes (m b : ℕ) (flags : List Bool) (y : Way) : Type 0 where
  pub marks : y.marks ≡ m
  pub byte : HasByte y.bytes b
  pub good : IsFlagged flags y.to
