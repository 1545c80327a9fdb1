-- Programs that are run one behind another, each at its position.
use Rattle.std.specs.Prelude.{◌≡◌, ℕ, ◌+◌, ◌-◌, ◌<◌, ◌≤◌, List, [], ◌∷◌, length, Option, Some, None, slice_get}
use Rattle.span_core.specs.Lists.{AreDistinct}
use Rattle.output_graph.specs.declared.planned.Planned.{Planned}
use Rattle.output_graph.specs.declared.programs.Part.{Part}
use Rattle.output_graph.specs.Graph.{AreApart, Graph, IsPlace, sources}
use Rattle.output_graph.specs.Named.{renamed}
use Rattle.output_graph.specs.Pools.{program_at}
use Rattle.output_graph.specs.Programs.{IsRun, Steps}

-- the layer has been stepped by a program at a position; the names of the next one are not written yet
pub record IsRunBy (program : Steps) (at : ℕ) (old new : Graph) (before after : ℕ) : Type 0 where
  pub run : IsRun old at program.groups (renamed program.targets new) before after
  pub distinct : AreDistinct program.targets
  pub long : length program.targets ≡ length new.layer
  pub apart : AreApart (sources new)
  pub counted : before + length program.groups ≤ after

-- so it has by each of these in turn
abbrev pub AreRun : List Steps → List Planned → Graph → Graph → ℕ → ℕ → Type 0
AreRun programs [] old new before after = (old ≡ new) × (before ≡ after)
AreRun programs (p ∷ plan) old new before after =
    (g : Graph) × (middle : ℕ) × IsRunBy (program_at programs p.program) p.at old g before middle × AreRun programs plan g new middle after

-- and it may be: each has as many sources as the layer that those before it lead to, and stands past the words there
abbrev pub MayRun : List Steps → List Planned → Graph → ℕ → Type 0
MayRun programs [] g now = Unit {0}
MayRun programs (p ∷ plan) g now =
    (length (program_at programs p.program).groups ≡ length g.layer) × IsPlace g p.at
    × ((new : Graph) (after : ℕ) → IsRunBy (program_at programs p.program) p.at g new now after → MayRun programs plan new after)

-- there are so many programs
abbrev pub AreWithin : ℕ → List Planned → Type 0
AreWithin most [] = Unit {0}
AreWithin most (p ∷ plan) = (p.program < most) × AreWithin most plan

-- how long the codes are in all
abbrev pub code_long : Option Part → ℕ
code_long None = 0
code_long (Some part) = part.code.to - part.code.from

abbrev pub codes_long : List Part → List Planned → ℕ
codes_long parts [] = 0
codes_long parts (p ∷ plan) = code_long (slice_get parts p.program) + codes_long parts plan
