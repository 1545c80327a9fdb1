-- The code of a plan: what is done to registers alone. It is checked on symbols: what each register holds, as the plan names it.
use Rattle.std.specs.Prelude.{◌≡◌, ℕ, zero, suc, List, [], ◌∷◌, ◌++◌, drop, length, Option, Some, None, slice_get}
use Rattle.output_graph.specs.declared.code.Instruction.{Instruction}
use Rattle.output_graph.specs.declared.code.Instruction.TheVariants.{Create, Free, Shift}
use Rattle.output_graph.specs.declared.code.Making.{Making}
use Rattle.output_graph.specs.declared.code.Symbols.{Symbols}
use Rattle.output_graph.specs.declared.program.Action.{Action}
use Rattle.output_graph.specs.declared.program.Action.TheVariants.{Make, Release}
use Rattle.output_graph.specs.declared.program.Link.{Link}
use Rattle.output_graph.specs.declared.program.Plan.{Plan}
use Rattle.output_graph.specs.declared.program.Register.{Register}
use Rattle.output_graph.specs.declared.program.Register.TheVariants.{Kept, Made}
use Rattle.output_graph.specs.Plans.{put}

-- the registers before a program: each has the cell of the source of its number
abbrev pub first_symbols : ℕ → List Register
first_symbols zero = []
first_symbols (suc k) = first_symbols k ++ Kept k ∷ []

-- the register holds what a link takes along, if it takes something
abbrev pub IsAlso : List Register → Option ℕ → Option Register → Type 0
IsAlso symbols None also = also ≡ None
IsAlso symbols (Some r) also = (x : Register) × (slice_get symbols r ≡ Some x) × (also ≡ Some x)

-- the cell that is made is that of the link
pub record IsMaking (symbols : List Register) (m : Making) (l : Link) : Type 0 where
  pub marks : m.marks ≡ l.marks
  pub from : slice_get symbols m.from ≡ Some (Kept l.from)
  pub also : IsAlso symbols m.also l.also

-- from registers that hold these, where so many cells have been made, the code does the actions, and these are held first then
abbrev pub DoesAll : List Register → ℕ → List Instruction → List Action → List Register → Type 0
DoesAll symbols made [] actions held = (actions ≡ []) × ((rest : List Register) × (symbols ≡ held ++ rest))
DoesAll symbols made (Create m ∷ code) actions held =
    (l : Link) × (later : List Action) × (actions ≡ Make l ∷ later) × IsMaking symbols m l × DoesAll (put symbols m.to (Made made)) (suc made) code later held
DoesAll symbols made (Free r ∷ code) actions held =
    (k : ℕ) × (later : List Action) × (actions ≡ Release k ∷ later) × (slice_get symbols r ≡ Some (Kept k)) × DoesAll symbols made code later held
DoesAll symbols made (Shift m ∷ code) actions held = (x : Register) × (slice_get symbols m.from ≡ Some x) × DoesAll (put symbols m.to x) made code actions held

-- the code does what the plan does
abbrev pub IsCode : Plan → List Instruction → Type 0
IsCode p code = DoesAll (first_symbols (length p.counts.items)) 0 code p.actions.items p.held.items

-- what a code does from the second, it does from the first with this instruction before it
abbrev pub IsTaken : List Action → Instruction → Symbols → Symbols → Type 0
IsTaken actions i old new =
    (code : List Instruction) (held : List Register) →
    DoesAll new.registers.items new.made code (drop new.done actions) held → DoesAll old.registers.items old.made (i ∷ code) (drop old.done actions) held
