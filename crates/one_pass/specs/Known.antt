-- What is kept of whole layers: what each does on a byte.
use Rattle.std.specs.Prelude.{◌≡◌, ℕ, ◌<◌, ◌≤◌, List, [], ◌∷◌, length, Option, Some, None, slice_get, slice_index_or, IsTrue}
use Rattle.std.specs.FinSet as bytes
use Rattle.span_core.specs.Lists.{AreDistinct, Has}
use Rattle.span_core.specs.declared.edge.Edge.{Edge}
use Rattle.automaton_reading.specs.Reading.{byte_read, edges}
use Rattle.output_graph.specs.Graph.{Graph, sets_of}
use Rattle.output_graph.specs.Named.{handing}
use Rattle.output_graph.specs.Source.{Edges}
use Rattle.output_graph.specs.Sound.{edges_of}
use Rattle.one_pass.specs.declared.entries.Entries.{Entries}
use Rattle.one_pass.specs.declared.entries.Entry.{Entry}
use Rattle.one_pass.specs.declared.entries.Entry.TheVariants.{Unknown, Glide, Run}
use Rattle.one_pass.specs.declared.known.Known.{Known}
use Rattle.set_table.specs.Tabled.{HasEdges, Tabled, look_up}
use Rattle.numbered_lists.specs.Numbered.{set_at}
use Rattle.one_pass.specs.Entries.{entry_at}
use Rattle.one_pass.specs.KnownSteps.{KnownStep}
use Rattle.one_pass.specs.Passes.{AllStayOn}

-- the set of a number was asked for a byte, and these are its edges on it
pub record IsLookUp (t : Tabled) (b s : ℕ) (group : Edges) : Type 0 where
  pub given : s < length t.sets
  pub asked : Has t.look_ups (look_up t s (byte_read b))
  pub by : List Edge
  pub are : edges_of by ≡ group
  pub edges : HasEdges t (look_up t s (byte_read b)) by

-- and those of each set, in their order
abbrev pub AreLookUps : Tabled → ℕ → List ℕ → List Edges → Type 0
AreLookUps t b [] [] = Unit {0}
AreLookUps t b [] (group ∷ groups) = ⊥
AreLookUps t b (s ∷ sets) [] = ⊥
AreLookUps t b (s ∷ sets) (group ∷ groups) = IsLookUp t b s group × AreLookUps t b sets groups

-- the set of a number was asked for a byte, and has the same edges on it as on another
pub record IsAlike (t : Tabled) (b other s : ℕ) : Type 0 where
  pub given : s < length t.sets
  pub asked : Has t.look_ups (look_up t s (byte_read b))
  pub same : edges t.graph (set_at t.sets s) (byte_read b) ≡ edges t.graph (set_at t.sets s) (byte_read other)

abbrev pub AreAlike : Tabled → ℕ → ℕ → List ℕ → Type 0
AreAlike t b other sets = (s : ℕ) → Has sets s → IsAlike t b other s

-- the sets of the layer of a number
abbrev pub layer_at : List (List ℕ) → ℕ → List ℕ
layer_at layers k = slice_index_or layers k []

-- a program of the edges of these sets on a byte, and the number of the layer that it leads to
pub record IsStepOf (t : Tabled) (layers : List (List ℕ)) (b : ℕ) (sets : List ℕ) (step : KnownStep) : Type 0 where
  pub look_ups : AreLookUps t b sets step.program.groups
  pub next : slice_get layers step.next ≡ Some step.program.targets

-- on a byte each of these sets hands its cell on to the set at its place in the layer of this number
pub record IsGlide (t : Tabled) (layers : List (List ℕ)) (b : ℕ) (sets : List ℕ) (next : ℕ) : Type 0 where
  pub to : List ℕ
  pub there : slice_get layers next ≡ Some to
  pub look_ups : AreLookUps t b sets (handing to)
  pub distinct : AreDistinct to

-- what is entered for a byte of these sets: nothing, the layer to whose sets they hand their cells on, or the place of a step
abbrev pub IsEntry : Tabled → List (List ℕ) → List KnownStep → ℕ → List ℕ → Entry → Type 0
IsEntry t layers steps b sets Unknown = Unit {0}
IsEntry t layers steps b sets (Glide next) = IsGlide t layers b sets next
IsEntry t layers steps b sets (Run p) = (step : KnownStep) × (slice_get steps p ≡ Some step) × IsStepOf t layers b sets step

-- what is entered is true of the table
pub record IsKnown (t : Tabled) (layers : List (List ℕ)) (entries : Entries) (steps : List KnownStep) : Type 0 where
  pub few : length entries.asked.items ≤ length layers
  pub each : (k b : ℕ) → b < 256 → IsEntry t layers steps b (layer_at layers k) (entry_at entries k b)

abbrev pub Knows : Tabled → Known → Type 0
Knows t known = IsKnown t known.layers known.entries known.steps

-- no layer has another number
abbrev pub KeepsLayers : Known → Known → Type 0
KeepsLayers old new = (k : ℕ) (sets : List ℕ) → slice_get old.layers k ≡ Some sets → slice_get new.layers k ≡ Some sets

-- it is no less known of any table
abbrev pub KeepsKnown : Known → Known → Type 0
KeepsKnown old new = (t : Tabled) → Knows t old → Knows t new

-- the layer of the graph has this number; or else its sets stay on the bytes that are kept of it
abbrev pub Stands : Tabled → Graph → Known → Option ℕ → Type 0
Stands t g known None = (b : ℕ) → b < 256 → IsTrue (bytes.contains known.stays b) → AllStayOn t g b
Stands t g known (Some k) = slice_get known.layers k ≡ Some (sets_of g.layer)
