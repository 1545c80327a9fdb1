-- A copy of cells, under other names.
use Rattle.std.specs.Prelude.{◌≡◌, ℕ, List, map, Option, Some, None}
use Rattle.node_arena.specs.Cells.{NamedLink, Cells, HasCell, hold}

abbrev pub renamed_one : (ℕ → ℕ) → Option ℕ → Option ℕ
renamed_one copy None = None
renamed_one copy (Some c) = Some (copy c)

-- the link whose names are those of the copies
abbrev pub renamed : (ℕ → ℕ) → NamedLink → NamedLink
renamed copy l = record { name = copy l.name; at = l.at; marks = l.marks; from = renamed_one copy l.from; also = renamed_one copy l.also }

-- no two of the cells have one copy
abbrev pub IsOneToOne : (ℕ → ℕ) → List NamedLink → Type 0
IsOneToOne copy cells = (c d : ℕ) → HasCell cells c → HasCell cells d → copy c ≡ copy d → c ≡ d

-- the new cells are copies of the old ones, in their order, as often held; `after` has the copies of the cells of `before`
pub record IsCopy (copy : ℕ → ℕ) (old new : Cells) (before after : List ℕ) : Type 0 where
  pub one_to_one : IsOneToOne copy old.cells
  pub cells : new.cells ≡ map (renamed copy) old.cells
  pub holds : (c : ℕ) → HasCell old.cells c → hold new.holds (copy c) ≡ hold old.holds c
  pub names : after ≡ map copy before
