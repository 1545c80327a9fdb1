-- Waiting: states that loop on each byte, and what leaves them takes bytes of given sets in turn.
use Rattle.std.specs.Prelude.{◌≡◌, ◌⊎◌, ℕ, ◌<◌, Bool, true, false, List, [], ◌∷◌, IsTrue}
use Rattle.span_core.specs.Lists.{Has}
use Rattle.marked_automaton.specs.declared.way.Way.{Way}
use Rattle.marked_automaton.specs.Automaton.{ByteClass, HasByte}

-- each byte of the one set is in the other
abbrev pub IsClassWithin : ByteClass → ByteClass → Type 0
IsClassWithin s t = (b : ℕ) → HasByte s b → HasByte t b

-- a way from a state to itself without marks
abbrev pub IsLoop : Way → Type 0
IsLoop y = (y.marks ≡ 0) × (y.to ≡ y.from)

-- there is one on each byte
abbrev pub IsLooping : List Way → ℕ → Type 0
IsLooping ways p = (y : Way) × Has ways y × (y.from ≡ p) × IsLoop y × ((b : ℕ) → b < 256 → HasByte y.bytes b)

-- the ways from these states take bytes of this set and lead to those states, loops left out if so told
abbrev pub IsLevel : Bool → List Way → List ℕ → ByteClass → List ℕ → Type 0
IsLevel leaving ways from bytes next =
    (y : Way) → Has ways y → Has from y.from → (IsTrue leaving × IsLoop y) ⊎ (IsClassWithin y.bytes bytes × Has next y.to)

-- and so on, in turn
abbrev pub Forces : List Way → Bool → List ℕ → List ByteClass → Type 0
Forces ways leaving from [] = Unit {0}
Forces ways leaving from (bytes ∷ chain) = (next : List ℕ) × IsLevel leaving ways from bytes next × Forces ways false next chain

-- each of the states has a loop on each byte, and what leaves them takes bytes of the chain in turn
pub record Waits (ways : List Way) (states : List ℕ) (chain : List ByteClass) : Type 0 where
  pub looping : (p : ℕ) → Has states p → IsLooping ways p
  pub forced : Forces ways true states chain

-- the set has a member, and each is one of these
pub record IsOf (states set : List ℕ) : Type 0 where
  pub some : (p : ℕ) × Has set p
  pub each : (p : ℕ) → Has set p → Has states p
