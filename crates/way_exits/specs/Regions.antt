-- Regions as lists of members, and what each way must be.
use Rattle.std.specs.Prelude.{◌⊎◌, ◌==◌, ℕ, List, [], ◌∷◌, map, if◌then◌else◌}
use Rattle.span_core.specs.Lists.{Has}
use Rattle.marked_automaton.specs.declared.way.Way.{Way}
use Rattle.way_exits.specs.Inside.{Closes, Deepens}
use Rattle.way_exits.specs.Waiting.{IsLoop}
use Rattle.way_exits.specs.declared.regions.Member.{Member}

abbrev pub region_of : List Member → List ℕ
region_of members = map (λ (m : Member). m.state) members

-- how many bytes of the text stand before a state
abbrev pub depth_of : List Member → ℕ → ℕ
depth_of [] x = 0
depth_of (m ∷ members) x = if m.state == x then m.depth else depth_of members x

-- a way from the states is a loop, or leads into the region
abbrev pub Enters : List ℕ → List Member → List ℕ → Way → Type 0
Enters states members text y = Has states y.from → IsLoop y ⊎ (Has (region_of members) y.to × Deepens text 0 y (depth_of members y.to))

-- a way from the region stays in it, or takes the last byte of the text
abbrev pub StaysIn : List Member → List ℕ → Way → Type 0
StaysIn members text y =
    Has (region_of members) y.from →
    (Has (region_of members) y.to × Deepens text (depth_of members y.from) y (depth_of members y.to)) ⊎ Closes text (depth_of members y.from) y

pub record FitsIn (states : List ℕ) (members : List Member) (text : List ℕ) (y : Way) : Type 0 where
  pub enters : Enters states members text y
  pub stays : StaysIn members text y
