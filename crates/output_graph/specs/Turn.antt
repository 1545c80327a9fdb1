-- The turning: the newest cell hands its rows to the cells that it names.
use Rattle.std.specs.Prelude.{◌≡◌, ℕ, ◌<◌, Bool, false, List, [], ◌∷◌, ◌++◌, map, if◌then◌else◌, nat_eq}
use Rattle.std.specs.Prelude.{Option, Some, None}
use Rattle.span_core.specs.Lists.{Has}
use Rattle.node_arena.specs.Words.{Word, words}
use Rattle.node_arena.specs.Cells.{NamedLink, HasCell}
use Rattle.output_graph.specs.Order.{LeadsBefore, AreInOrder, Ascends}
use Rattle.output_graph.specs.Grown.{past_at, Closes}

-- the rows of each cell's head
abbrev pub Heads : Type 0
Heads = ℕ → List Word

abbrev pub names : Option ℕ → ℕ → Bool
names None c = false
names (Some d) c = nat_eq d c

-- the head of c once l is taken, whose own head is `rows`, where `old` was c's head
abbrev pub handed : NamedLink → List Word → ℕ → List Word → List Word
handed l rows c old =
    if names l.also c then rows
    else if names l.from c then (if nat_eq l.marks 0 then rows else map (λ w. (l.at, l.marks) ∷ w) rows ++ old)
    else old

abbrev pub take_newest : NamedLink → Heads → Heads
take_newest l h c = handed l (h l.name) c (h c)

-- what holds between two cells that are taken
pub record Turning (cells : List NamedLink) (h : Heads) (Accepted : Word → Type 0) : Type 0 where
  pub sound : (c : ℕ) (u s : Word) → Has (words cells c) u → Has (h c) s → Accepted (u ++ s)
  pub whole : (w : Word) → Accepted w → (c : ℕ) × (u : Word) × (s : Word) × Has (words cells c) u × Has (h c) s × (u ++ s ≡ w)
  pub in_order : (c : ℕ) → AreInOrder (h c)
  pub ascend : (c : ℕ) (s : Word) → HasCell cells c → Has (h c) s → Ascends (past_at cells c) s
  pub led : (c : ℕ) (d : NamedLink) (s : Word) → Has cells d → d.from ≡ Some c → 0 < d.marks → Has (h c) s → LeadsBefore (d.at, d.marks) s
  pub closed : (c : ℕ) (d : NamedLink) → Has cells d → Closes d c → h c ≡ []

-- the heads before the turning: that of the accepted cell has the empty row
abbrev pub start : ℕ → Heads
start accept c = if nat_eq c accept then [] ∷ [] else []
