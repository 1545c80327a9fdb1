-- Programs in lists that they share.
use Rattle.std.specs.Prelude.{◌≡◌, ◌≤◌, ◌-◌, ℕ, List, [], map, take, drop, length, slice_get, slice_index_or, Some}
use Rattle.output_graph.specs.declared.code.Instruction.{Instruction}
use Rattle.output_graph.specs.declared.program.Plan.{Plan}
use Rattle.output_graph.specs.declared.programs.Part.{Part}
use Rattle.output_graph.specs.declared.programs.Piece.{Piece}
use Rattle.output_graph.specs.declared.programs.Pool.{Pool}
use Rattle.output_graph.specs.declared.running.PlanLists.{PlanLists}
use Rattle.output_graph.specs.Codes.{IsCode}
use Rattle.output_graph.specs.Plans.{IsPlan}
use Rattle.output_graph.specs.Programs.{Steps, cut, edges_in, steps_of}

-- what running reads is the plan's code, and what is so in the plan
pub record AreOfPlan (lists : PlanLists) : Type 0 where
  pub code : IsCode lists.plan.now.value lists.code.now
  pub targets : lists.targets.now ≡ lists.plan.now.value.targets.items
  pub sources : lists.sources ≡ length lists.plan.now.value.counts.items

-- what contracts see of a plan
abbrev pub meaning_of : Plan → Steps
meaning_of p = steps_of (cut p.counts.items (edges_in p.moves.items)) p.targets.items

-- these stand in a list where the piece says
pub record HasPiece {A : Type 0} (list : List A) (piece : Piece) (these : List A) : Type 0 where
  pub ordered : piece.from ≤ piece.to
  pub within : piece.to ≤ length list
  pub are : take (piece.to - piece.from) (drop piece.from list) ≡ these

-- a part has a code of its plan, and what the plan has
pub record IsPart (pool : Pool) (part : Part) : Type 0 where
  pub is_plan : IsPlan part.plan.value
  pub code : List Instruction
  pub is_code : IsCode part.plan.value code
  pub there : HasPiece pool.code.items part.code code
  pub targets : HasPiece pool.targets.items part.targets part.plan.value.targets.items
  pub sources : part.sources ≡ length part.plan.value.counts.items

abbrev pub ArePooled : Pool → Type 0
ArePooled pool = (k : ℕ) (part : Part) → slice_get pool.parts.items k ≡ Some part → IsPart pool part

abbrev pub programs_in : List Part → List Steps
programs_in parts = map (λ (part : Part). meaning_of part.plan.value) parts

-- the program of a number
abbrev pub program_at : List Steps → ℕ → Steps
program_at programs k = slice_index_or programs k (steps_of [] [])
