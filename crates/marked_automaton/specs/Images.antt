-- The sets of states that a reduct reaches.
use Rattle.std.specs.Prelude.{◌≡◌, ℕ, ◌↔◌, List, Option, Some}
use Rattle.span_core.specs.Lists.{Has}
use Rattle.marked_automaton.specs.declared.way.Way.{Way}
use Rattle.marked_automaton.specs.Automaton.{Automaton, HasByte}
use Rattle.marked_automaton.specs.Reduct.{IsReached, HasEnd, IsReduct}

-- SA has the states that those of SB stand for
abbrev pub IsImage : (ℕ → Option ℕ) → List ℕ → List ℕ → Type 0
IsImage f SB SA = (a : ℕ) → Has SA a ↔ ((b : ℕ) × Has SB b × (f b ≡ Some a))

abbrev pub AllAreReached : Automaton → List ℕ → Type 0
AllAreReached B S = (b : ℕ) → Has S b → IsReached B b

-- a member goes to q by this byte with this block
abbrev pub LeadsTo : Automaton → List ℕ → ℕ → ℕ → ℕ → Type 0
LeadsTo A S c m q = (y : Way) × Has A.ways y × Has S y.from × HasByte y.bytes c × (y.marks ≡ m) × (y.to ≡ q)

-- the set that a reduct reaches by a byte and a block is the image of the set that is reached by them,
-- and likewise its ends and its idle members
abbrev pub ImageLaw : Type 0
ImageLaw =
    (A B : Automaton) (f g : ℕ → Option ℕ) (e : ℕ → ℕ → ℕ) → IsReduct A B f g e →
    (SB SA : List ℕ) → AllAreReached B SB → IsImage f SB SA →
    ((c m q : ℕ) → LeadsTo A SA c m q ↔ ((b : ℕ) × LeadsTo B SB c m b × (f b ≡ Some q)))
    × ((m : ℕ) → ((a : ℕ) × Has SA a × HasEnd A a m) ↔ ((b : ℕ) × Has SB b × HasEnd B b m))
    × ((a : ℕ) → (Has SA a × Has A.idle a) ↔ ((b : ℕ) × Has SB b × Has B.idle b × (f b ≡ Some a)))
