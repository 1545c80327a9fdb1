-- Sources of a layer that are told by flags.
use Rattle.std.specs.Prelude.{◌≡◌, ℕ, zero, suc, ◌+◌, ◌*◌, ◌<◌, ◌≤◌, ◌↔◌, Bool, true, false, List, [], ◌∷◌, length, slice_index_or, if◌then◌else◌}
use Rattle.span_core.specs.Lists.{AreDistinct, Has}
use Rattle.numbered_lists.specs.Numbered.{set_at}
use Rattle.node_arena.specs.Words.{Word}
use Rattle.output_graph.specs.Graph.{Graph, HasWord, Source, sets_of, sources, targets}
use Rattle.output_graph.specs.Source.{Edges}
use Rattle.set_table.specs.Tabled.{Tabled}
use Rattle.one_pass.specs.Layers.{source_at}
use Rattle.one_pass.specs.Settling.{Rule}
use Rattle.one_pass.specs.Turned.{IsTurned}

abbrev pub flag_at : List Bool → ℕ → Bool
flag_at flags k = slice_index_or flags k false

-- how many of the first k flags are set
abbrev pub told_in : List Bool → ℕ → ℕ
told_in flags zero = 0
told_in flags (suc k) = told_in flags k + (if flag_at flags k then 1 else 0)

-- the flag of source j tells whether its set is given
abbrev pub IsTold : Rule → Tabled → Graph → List Bool → ℕ → Type 0
IsTold G t g flags j =
    (flag_at flags j ≡ true → G (set_at t.sets (source_at (sources g) j).set)) × (flag_at flags j ≡ false → ¬ G (set_at t.sets (source_at (sources g) j).set))

-- the flags tell the sources whose sets are given
abbrev pub AreTold : Rule → Tabled → Graph → List Bool → Type 0
AreTold G t g flags = (j : ℕ) → j < length (sources g) → IsTold G t g flags j

-- the flags so far tell the first k sources
abbrev pub AreToldTo : Rule → Tabled → Graph → ℕ → List Bool → Type 0
AreToldTo G t g k flags = (length flags ≡ k) × ((j : ℕ) → j < k → IsTold G t g flags j)

-- w is a word of the set s at one of the first k sources with this flag
abbrev pub HasFlagged : List Source → List Bool → Bool → ℕ → ℕ → Word → Type 0
HasFlagged xs flags b k s w = (j : ℕ) × (j < k) × (flag_at flags j ≡ b) × ((source_at xs j).set ≡ s) × Has (source_at xs j).words w

-- w is a word of a source that is told
abbrev pub IsGivenBy : Graph → List Bool → Word → Type 0
IsGivenBy g flags w = (s : ℕ) × HasFlagged (sources g) flags true (length (sources g)) s w

-- the sources that are not told are kept, with their sets and words
pub record AreKept (old : Graph) (flags : List Bool) (new : Graph) : Type 0 where
  pub fresh : (new.stepped ≡ 0) × (new.next ≡ [])
  pub words : (s : ℕ) (w : Word) → HasWord (sources new) s w ↔ HasFlagged (sources old) flags false (length (sources old)) s w
  pub sets : (s : ℕ) → Has (sets_of new.layer) s → Has (sets_of old.layer) s
  pub apart : AreDistinct (sets_of new.layer)
  pub cells : length new.cells ≤ length old.cells
  pub layer : length new.layer ≤ length old.layer

-- the edges of a source that is kept, to its own set, and those of one that is given up
abbrev pub kept_edges : ℕ → Bool → Edges
kept_edges s true = []
kept_edges s false = (0, s) ∷ []

-- the ends of a source that is given, and those of one that is not
abbrev pub given_ends : Bool → List ℕ
given_ends true = 0 ∷ []
given_ends false = []

-- the first k sources of a layer have been kept or given up
pub record IsKeeping (first : Graph) (flags : List Bool) (at k : ℕ) (g : Graph) : Type 0 where
  pub turned : IsTurned first k at g
  pub words : (s : ℕ) (w : Word) → HasWord (targets g) s w ↔ HasFlagged (sources first) flags false k s w
  pub sets : (s : ℕ) → Has (sets_of g.next) s → (j : ℕ) × (j < k) × ((source_at (sources first) j).set ≡ s)
  pub cells : length g.cells ≤ length first.cells
  pub few : length g.next ≤ k

-- they took so many steps: 5 for one that is kept, and 2 for one that is given up
pub record KeepsWithin (first : Graph) (flags : List Bool) (k : ℕ) (g : Graph) (before after : ℕ) : Type 0 where
  pub steps : after + length g.cells + 3 * told_in flags k ≤ before + length first.cells + 5 * k

-- or they have been given, or not
pub record IsListing (first : Graph) (flags : List Bool) (at k : ℕ) (g : Graph) : Type 0 where
  pub turned : IsTurned first k at g
  pub words : (w : Word) → HasWord (targets g) 0 w ↔ ((s : ℕ) × HasFlagged (sources first) flags true k s w)
  pub only : (s : ℕ) → Has (sets_of g.next) s → s ≡ 0
  pub cells : length g.cells ≤ length first.cells + told_in flags k

-- they took so many steps: 5 for one that is given, and 2 for another
pub record ListsWithin (first : Graph) (flags : List Bool) (k : ℕ) (g : Graph) (before after : ℕ) : Type 0 where
  pub steps : after + length g.cells ≤ before + length first.cells + 2 * k + 3 * told_in flags k
