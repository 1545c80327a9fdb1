-- Layers that a boundary brings home: states that wait, and those of a region that the boundary leads to.
use Rattle.std.specs.Prelude.{◌≡◌, ◌⊎◌, ℕ, List, Vec}
use Rattle.std.specs.Global.{Global}
use Rattle.span_core.specs.Lists.{Has}
use Rattle.byte_runs.specs.Inner.{Inner}
use Rattle.marked_automaton.specs.declared.way.Way.{Way}
use Rattle.marked_automaton.specs.Automaton.{HasByte}
use Rattle.way_exits.specs.Inside.{Closes, Deepens}
use Rattle.way_exits.specs.Regions.{depth_of, region_of}
use Rattle.way_exits.specs.Waiting.{IsLoop, IsLooping, IsOf}
use Rattle.way_exits.specs.declared.regions.Member.{Member}

-- the set has each of the states
abbrev pub HasAll : List ℕ → List ℕ → Type 0
HasAll states set = (p : ℕ) → Has states p → Has set p

-- the state loops on each byte, or is of the region and no byte of the text stands before it
abbrev pub BeginsIn : List Way → List Member → ℕ → Type 0
BeginsIn ways members p = IsLooping ways p ⊎ (Has (region_of members) p × (depth_of members p ≡ 0))

-- each state does so; another way from it than a loop leads into the region, and a way from the region stays in it or takes the
-- last byte of the text
pub record IsHomeRegion (ways : List Way) (states region : List ℕ) (depth : ℕ → ℕ) (text : List ℕ) : Type 0 where
  pub begins : (p : ℕ) → Has states p → IsLooping ways p ⊎ (Has region p × (depth p ≡ 0))
  pub enters : (y : Way) → Has ways y → Has states y.from → IsLoop y ⊎ (Has region y.to × Deepens text 0 y (depth y.to))
  pub stays : (y : Way) → Has ways y → Has region y.from → (Has region y.to × Deepens text (depth y.from) y (depth y.to)) ⊎ Closes text (depth y.from) y

-- the way leads on the byte, without marks, from the states to this one
abbrev pub IsOnWay : Way → List ℕ → ℕ → ℕ → Type 0
IsOnWay y states p b = Has states y.from × (y.marks ≡ 0) × (y.to ≡ p) × HasByte y.bytes b

-- a way without marks leads on the byte from the states to this one
abbrev pub LeadsTo : List Way → List ℕ → ℕ → ℕ → Type 0
LeadsTo ways states p b = (y : Way) × Has ways y × Has states y.from × (y.marks ≡ 0) × (y.to ≡ p) × HasByte y.bytes b

-- the way does not take the byte from the region, nor from the states but to one of them, without marks
pub record IsUnspoilt (y : Way) (states region : List ℕ) (b : ℕ) : Type 0 where
  pub inside : Has region y.from → HasByte y.bytes b → ⊥
  pub within : Has states y.from → HasByte y.bytes b → (y.marks ≡ 0) × Has states y.to

-- no way does, and the byte leads to each of the states
pub record BringsHome (ways : List Way) (states region : List ℕ) (b : ℕ) : Type 0 where
  pub unspoilt : (y : Way) → Has ways y → IsUnspoilt y states region b
  pub each : (p : ℕ) → Has states p → LeadsTo ways states p b

-- the set is one of these
abbrev pub IsAmong : List (Vec ℕ Global) → List ℕ → Type 0
IsAmong sets set = (v : Vec ℕ Global) × Has sets v × IsOf v.items set × HasAll v.items set

-- there is one region of the text for each of the sets, and its bytes bring each of them home
pub record ComesHome (ways : List Way) (sets : List (Vec ℕ Global)) (inner : Inner) : Type 0 where
  pub region : List ℕ
  pub depth : ℕ → ℕ
  pub is : (v : Vec ℕ Global) → Has sets v → IsHomeRegion ways v.items region depth inner.text
  pub homes : (b : ℕ) → HasByte inner.kills b → (v : Vec ℕ Global) → Has sets v → BringsHome ways v.items region b
