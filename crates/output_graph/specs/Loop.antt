-- What the loop of the turning keeps.
use Rattle.std.specs.Prelude.{◌≡◌, ◌⊎◌, Option, Some, None, ◌↔◌, ℕ, ◌+◌, ◌<◌, ◌≤◌, List, ◌∷◌, length, if◌then◌else◌, nat_eq}
use Rattle.span_core.specs.Lists.{Has}
use Rattle.node_arena.specs.Words.{Word, words}
use Rattle.node_arena.specs.Cells.{NamedLink, HasCell, Holds, hold}
use Rattle.output_graph.specs.Order.{AreInOrder, Ascends}
use Rattle.output_graph.specs.Grown.{AreGrown}
use Rattle.output_graph.specs.Turn.{Heads, Turning}
use Rattle.node_arena.specs.Rows.{rows, HasRow, IsThere, NamedRow, named_row}
use Rattle.node_arena.specs.Closing.{Entries, head, with_head}
use Rattle.output_graph.specs.RowLists.{AreMade, AreLed, Keeps}
use Rattle.node_arena.specs.declared.row.Entry.{Entry}
use Rattle.node_arena.specs.declared.row.Entry.TheVariants.{Nothing, Done, Row}

-- `cells` are left of `most`; `entries` are their heads, `store` has the row cells so far
pub record IsTurned (Accepted : Word → Type 0) (most : ℕ) (cells : List NamedLink) (entries : ℕ → Entry) (store : List NamedRow) : Type 0 where
  pub heads : Heads
  pub grown : AreGrown cells
  pub turning : Turning cells heads Accepted
  pub keeps : Keeps store entries heads
  pub led : AreLed store
  pub marked : (r : NamedRow) → Has store r → 0 < r.marks
  pub few : length store + length cells ≤ most

abbrev pub first_entries : ℕ → ℕ → Entry
first_entries accept c = if nat_eq c accept then Done else Nothing

-- these row cells and their first entry are the accepted words, each once, in block order
pub record AreListed (Accepted : Word → Type 0) (most : ℕ) (store : List NamedRow) (first : Entry) : Type 0 where
  pub exact : (w : Word) → Has (rows store first) w ↔ Accepted w
  pub in_order : AreInOrder (rows store first)
  pub made : AreMade store
  pub led : AreLed store
  pub first_there : IsThere store first
  pub ascend : (w : Word) → Has (rows store first) w → Ascends 0 w
  pub marked : (r : NamedRow) → Has store r → 0 < r.marks
  pub few : length store ≤ most

-- what `from` gets: the own entry of a cell without marks; nothing new of one that leads to no row; else a new row cell
abbrev pub IsEntryOfFrom : ℕ → ℕ → Entry → Entry → List NamedRow → List NamedRow → Entry → Type 0
IsEntryOfFrom at marks mine next old new e =
    ((marks ≡ 0) × (e ≡ mine) × (new ≡ old))
    ⊎ ((0 < marks) × (mine ≡ Nothing) × (e ≡ next) × (new ≡ old))
    ⊎ ((0 < marks) × (mine ≡ Nothing → ⊥) × ((name : ℕ) × (HasRow old name → ⊥) × (e ≡ Row name)
    × (new ≡ named_row name (record { at = at; marks = marks; child = mine; next = next }) ∷ old)))

abbrev pub handed_to : Entries → Option ℕ → Entry → Entries
handed_to heads None e = heads
handed_to heads (Some c) e = with_head heads c e

-- the newest cell, with this block and this entry, is taken, and `from` and `also` got their heads: `left` are those before
abbrev pub IsHanded : ℕ → ℕ → ℕ → Option ℕ → Entry → Entries → List NamedRow → List NamedLink → Entries → List NamedRow → Entry → Type 0
IsHanded at marks from also mine heads store older after new e =
    (left : Entries) × ((c : ℕ) → HasCell older c → head left c ≡ head heads c) × IsEntryOfFrom at marks mine (head left from) store new e
    × (after ≡ handed_to (with_head left from e) also mine)

-- what the code's loop keeps
pub record IsInTurn (Accepted : Word → Type 0) (most : ℕ) (cells : List NamedLink) (heads : Entries) (store : List NamedRow) : Type 0 where
  pub entries : ℕ → Entry
  pub turned : IsTurned Accepted most cells entries store
  pub same : (c : ℕ) → HasCell cells c → head heads c ≡ entries c

-- w is a word of the accepting cell
abbrev pub IsAcceptedBy : List NamedLink → Option ℕ → Word → Type 0
IsAcceptedBy cells accept w = (a : ℕ) × (accept ≡ Some a) × Has (words cells a) w

-- the accepting cell is held once, and no other
abbrev pub IsAccepting : Holds → Option ℕ → Type 0
IsAccepting holds None = (c : ℕ) → hold holds c ≡ 0
IsAccepting holds (Some a) = (hold holds a ≡ 1) × ((c : ℕ) → (c ≡ a → ⊥) → hold holds c ≡ 0)
