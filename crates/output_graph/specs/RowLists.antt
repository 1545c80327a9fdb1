-- Row lists: what holds of row cells, newest first.
use Rattle.std.specs.Prelude.{◌≡◌, ℕ, List, [], ◌∷◌, if◌then◌else◌, nat_eq}
use Rattle.span_core.specs.Lists.{Has}
use Rattle.node_arena.specs.declared.row.Entry.{Entry}
use Rattle.node_arena.specs.declared.row.Entry.TheVariants.{Nothing}
use Rattle.node_arena.specs.Rows.{NamedRow, rows, HasRow, IsThere}
use Rattle.node_arena.specs.Words.{Word}
use Rattle.node_arena.specs.Cells.{NamedLink}
use Rattle.output_graph.specs.Order.{LeadsBefore}
use Rattle.output_graph.specs.Turn.{Heads, names}

-- each names older ones, and has a row
pub record IsMade (older : List NamedRow) (r : NamedRow) : Type 0 where
  pub fresh : HasRow older r.name → ⊥
  pub child_there : IsThere older r.child
  pub next_there : IsThere older r.next
  pub child_some : r.child ≡ Nothing → ⊥

abbrev pub AreMade : List NamedRow → Type 0
AreMade [] = Unit {0}
AreMade (r ∷ older) = IsMade older r × AreMade older

-- the entry of c once l is taken, whose own is `mine`; `new` is that of the new row cell
abbrev pub handed_entry : NamedLink → Entry → Entry → ℕ → Entry → Entry
handed_entry l mine new c old =
    if names l.also c then mine
    else if names l.from c then (if nat_eq l.marks 0 then mine else new)
    else old

abbrev pub row_cell : ℕ → NamedLink → Entry → Entry → NamedRow
row_cell name l child next = record { name = name; at = l.at; marks = l.marks; child = child; next = next }

-- the entries have the rows of the heads
pub record Keeps (store : List NamedRow) (entries : ℕ → Entry) (h : Heads) : Type 0 where
  pub made : AreMade store
  pub there : (c : ℕ) → IsThere store (entries c)
  pub same : (c : ℕ) → rows store (entries c) ≡ h c

-- each row cell's block stands before all rows of its next
abbrev pub AreLed : List NamedRow → Type 0
AreLed [] = Unit {0}
AreLed (r ∷ older) = ((w : Word) → Has (rows older r.next) w → LeadsBefore (r.at, r.marks) w) × AreLed older
