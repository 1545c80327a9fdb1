-- Row cells, newest first, and the rows of an entry.
use Rattle.std.specs.Prelude.{◌≡◌, ℕ, List, [], ◌∷◌, ◌++◌, map, if◌then◌else◌, nat_eq, Option, Some, None, refl}
use Rattle.std.specs.Coded.{Coded, code_by, coded×, coded_option, coded_ℕ}
use Rattle.span_core.specs.Lists.{Has}
use Rattle.node_arena.specs.Words.{Word}
use Rattle.node_arena.specs.declared.row.Entry.{Entry}
use Rattle.node_arena.specs.declared.row.Entry.TheVariants.{Nothing, Done, Row}
use Rattle.node_arena.specs.declared.row.RowCell.{RowCell}

-- a row cell with its name
pub record NamedRow : Type 0 where
  pub name : ℕ
  pub at : ℕ
  pub marks : ℕ
  pub child : Entry
  pub next : Entry

abbrev pub option_of : Entry → Option (Option ℕ)
option_of Nothing = None
option_of Done = Some None
option_of (Row k) = Some (Some k)

abbrev pub entry_of : Option (Option ℕ) → Entry
entry_of None = Nothing
entry_of (Some None) = Done
entry_of (Some (Some k)) = Row k

abbrev pub same_entry : (e : Entry) → entry_of (option_of e) ≡ e
same_entry Nothing = refl
same_entry Done = refl
same_entry (Row k) = refl

abbrev pub entry_code : Coded Entry
entry_code = code_by (Option (Option ℕ)) (coded_option (coded_option coded_ℕ)) option_of entry_of same_entry

abbrev pub row_code : Coded NamedRow
row_code =
    code_by (ℕ × (ℕ × (ℕ × (Entry × Entry)))) (coded× coded_ℕ (coded× coded_ℕ (coded× coded_ℕ (coded× entry_code entry_code))))
    (λ r. (r.name, (r.at, (r.marks, (r.child, r.next))))) (λ p. record { name = p.0; at = p.1.0; marks = p.1.1.0; child = p.1.1.1.0; next = p.1.1.1.1 }) (λ _. refl)

-- the row cell of this name
abbrev pub named_row : ℕ → RowCell → NamedRow
named_row name r = record { name = name; at = r.at; marks = r.marks; child = r.child; next = r.next }

-- the rows of an entry
abbrev pub rows : List NamedRow → Entry → List Word
rows [] Nothing = []
rows [] Done = [] ∷ []
rows [] (Row k) = []
rows (r ∷ older) Nothing = []
rows (r ∷ older) Done = [] ∷ []
rows (r ∷ older) (Row k) =
    if nat_eq r.name k
    then map (λ w. (r.at, r.marks) ∷ w) (rows older r.child) ++ rows older r.next
    else rows older (Row k)

-- the row cell of this name
abbrev pub row_at : List NamedRow → ℕ → Option NamedRow
row_at [] k = None
row_at (r ∷ older) k = if nat_eq r.name k then Some r else row_at older k

abbrev pub HasRow : List NamedRow → ℕ → Type 0
HasRow store k = (r : NamedRow) × Has store r × (r.name ≡ k)

-- the entry is Nothing, Done or one of these row cells
abbrev pub IsThere : List NamedRow → Entry → Type 0
IsThere store Nothing = Unit {0}
IsThere store Done = Unit {0}
IsThere store (Row k) = HasRow store k

-- r may be the next newer row cell
pub record Heads (older : List NamedRow) (r : NamedRow) : Type 0 where
  pub fresh : HasRow older r.name → ⊥
  pub child_there : IsThere older r.child
  pub next_there : IsThere older r.next

-- names are distinct, and child and next are older
abbrev pub AreRows : List NamedRow → Type 0
AreRows [] = Unit {0}
AreRows (r ∷ older) = Heads older r × AreRows older
