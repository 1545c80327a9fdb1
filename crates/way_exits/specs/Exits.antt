-- What is known of how states are left.
use Rattle.std.specs.Prelude.{◌⊎◌, ℕ, Bool, List, IsTrue}
use Rattle.span_core.specs.Lists.{Has}
use Rattle.marked_automaton.specs.declared.way.Way.{Way}
use Rattle.way_exits.specs.Home.{ComesHome, IsAmong}
use Rattle.way_exits.specs.Inside.{WaitsInside}
use Rattle.way_exits.specs.Waiting.{IsLoop, IsClassWithin, IsOf, Waits}
use Rattle.way_exits.specs.declared.chains.Level.{Level}
use Rattle.way_exits.specs.declared.waiting.Exit.{Exit}
use Rattle.way_exits.specs.declared.waiting.Exit.TheVariants.{Front, Home, Inside}
use Rattle.way_exits.specs.declared.waiting.Waiting.{Waiting}

-- what leaves the states takes bytes of a chain in turn; or it comes through behind a text alone, where they wait, or where some sets come home
abbrev pub LeaveBy : List Way → List ℕ → Exit → Type 0
LeaveBy ways states (Front chain) = Waits ways states chain
LeaveBy ways states (Inside inner) = WaitsInside ways states inner
LeaveBy ways states (Home homes) = ComesHome ways homes.sets.items homes.text

-- the set is of these states; or it is one of the sets that come home
abbrev pub IsLeft : List ℕ → Exit → List ℕ → Type 0
IsLeft states (Front chain) set = IsOf states set
IsLeft states (Inside inner) set = IsOf states set
IsLeft states (Home homes) set = IsAmong homes.sets.items set

abbrev pub Knows : Waiting → List ℕ → Type 0
Knows w set = IsLeft w.states.items w.exit set

-- a way was added to a level: its bytes and its state, where it leads from one of these states and is not left out
pub record HasAdded (leaving : Bool) (from : List ℕ) (y : Way) (old new : Level) : Type 0 where
  pub bytes : IsClassWithin old.bytes new.bytes
  pub next : (x : ℕ) → Has old.next.items x → Has new.next.items x
  pub here : Has from y.from → (IsTrue leaving × IsLoop y) ⊎ (IsClassWithin y.bytes new.bytes × Has new.next.items y.to)
