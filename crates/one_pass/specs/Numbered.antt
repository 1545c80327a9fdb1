-- A pass in a layer that is told by its number: its graph has the cells, but may name the sets of a layer before.
use Rattle.std.specs.Prelude.{◌≡◌, ℕ, ◌+◌, ◌<◌, ◌≤◌, List, length, Option, Some, None}
use Rattle.span_core.specs.Lists.{AreDistinct}
use Rattle.output_graph.specs.declared.planned.Planned.{Planned}
use Rattle.output_graph.specs.Graph.{AreApart, Graph, sources}
use Rattle.output_graph.specs.Named.{renamed}
use Rattle.output_graph.specs.Planned.{AreRun, AreWithin, MayRun}
use Rattle.set_table.specs.Tabled.{Tabled}
use Rattle.one_pass.specs.declared.bytes.Place.{Place}
use Rattle.one_pass.specs.declared.known.Known.{Known}
use Rattle.one_pass.specs.declared.pass.Pass.{Pass}
use Rattle.one_pass.specs.Going.{IsAdvanced}
use Rattle.one_pass.specs.Known.{Stands, layer_at}
use Rattle.one_pass.specs.KnownSteps.{programs_of}

-- the graph with the sets of the layer of this number, if there is one
abbrev pub in_layer : List (List ℕ) → Option ℕ → Graph → Graph
in_layer layers None g = g
in_layer layers (Some k) g = renamed (layer_at layers k) g

-- and the pass
abbrev pub as_layer : Option ℕ → Pass → Pass
as_layer k p = record { graph = in_layer p.known.layers k p.graph; known = p.known; search = p.search; at = p.at }

-- the layer of this number has as many sets as the graph has cells
pub record IsNumbered (g : Graph) (layers : List (List ℕ)) (k : ℕ) : Type 0 where
  pub there : k < length layers
  pub distinct : AreDistinct (layer_at layers k)
  pub every : length (layer_at layers k) ≡ length g.layer

-- so it stands in that layer; or in none that has a number
abbrev pub StandsIn : Tabled → Graph → Known → Option ℕ → Type 0
StandsIn t g known None = Stands t g known None
StandsIn t g known (Some k) = IsNumbered g known.layers k

-- some bytes at the front of these have been read
pub record IsReadTo (bytes : List ℕ) (t : Tabled) (k : Option ℕ) (p : Pass) (n : ℕ) (place : Place) (u : Tabled) (q : Pass) (m : ℕ) : Type 0 where
  pub advanced : IsAdvanced t (as_layer k p) n bytes place.bytes u (as_layer place.layer q) m
  pub stands : StandsIn u q.graph q.known place.layer
  pub within : place.bytes ≤ length bytes

-- the pass with another graph, behind so many bytes more
abbrev pub moved_to : Graph → ℕ → Pass → Pass
moved_to g j p = record { graph = g; known = p.known; search = p.search; at = p.at + j }

-- once programs have been run, which left this graph, so many bytes at the front of these are read
pub record IsLed (bytes : List ℕ) (t : Tabled) (k : ℕ) (p : Pass) (n : ℕ) (g : Graph) (next j m : ℕ) : Type 0 where
  pub advanced : IsAdvanced t (as_layer (Some k) p) n bytes j t (as_layer (Some next) (moved_to g j p)) m
  pub stands : IsNumbered g p.known.layers next
  pub apart : AreApart (sources g)

-- it has looked ahead over so many bytes at the front of these, from the layer of a number to that of another, by these programs
pub record IsAhead (bytes : List ℕ) (t : Tabled) (k : ℕ) (p : Pass) (plan : List Planned) (next j : ℕ) : Type 0 where
  pub there : next < length p.known.layers
  pub within : AreWithin (length (programs_of p.known.steps)) plan
  pub may : (n : ℕ) → MayRun (programs_of p.known.steps) plan p.graph n
  pub led : (g : Graph) (n m : ℕ) → AreRun (programs_of p.known.steps) plan p.graph g n m → IsLed bytes t k p n g next j m
