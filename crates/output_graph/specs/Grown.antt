-- What the forward pass keeps true of its cells, newest first.
use Rattle.std.specs.Prelude.{◌≡◌, ◌⊎◌, ℕ, ◌+◌, ◌<◌, ◌≤◌, max, List, [], ◌∷◌, if◌then◌else◌, nat_eq}
use Rattle.std.specs.Prelude.{Some, None}
use Rattle.span_core.specs.Lists.{Has}
use Rattle.node_arena.specs.Cells.{NamedLink, HasCell}

-- one past the last position at which one of these cells has marks
abbrev pub past : List NamedLink → ℕ
past [] = 0
past (l ∷ older) = if nat_eq l.marks 0 then past older else max (past older) (l.at + 1)

-- the same of the cell and those older than it
abbrev pub past_at : List NamedLink → ℕ → ℕ
past_at [] c = 0
past_at (l ∷ older) c = if nat_eq l.name c then past (l ∷ older) else past_at older c

-- the turning hands this cell's whole list to c
abbrev pub Closes : NamedLink → ℕ → Type 0
Closes l c = ((l.marks ≡ 0) × (l.from ≡ Some c)) ⊎ (l.also ≡ Some c)

-- no cell has closed c so far
abbrev pub IsOpen : List NamedLink → ℕ → Type 0
IsOpen cells c = (l : NamedLink) → Has cells l → Closes l c → ⊥

-- d's block stands before l's
abbrev pub IsEarlier : NamedLink → NamedLink → Type 0
IsEarlier d l = (d.at < l.at) ⊎ ((d.at ≡ l.at) × (l.marks < d.marks))

-- l may be the next newer cell
pub record Continues (older : List NamedLink) (l : NamedLink) : Type 0 where
  pub fresh : HasCell older l.name → ⊥
  pub first_is_root : l.from ≡ None → older ≡ []
  pub unmarked : l.from ≡ None → l.marks ≡ 0
  pub from_there : (c : ℕ) → l.from ≡ Some c → HasCell older c
  pub also_there : (c : ℕ) → l.also ≡ Some c → HasCell older c
  pub apart : (c : ℕ) → l.from ≡ Some c → l.also ≡ Some c → ⊥
  pub from_open : (c : ℕ) → l.from ≡ Some c → IsOpen older c
  pub also_open : (c : ℕ) → l.also ≡ Some c → IsOpen older c
  pub later : (c : ℕ) → l.from ≡ Some c → 0 < l.marks → past_at older c ≤ l.at
  pub descends : (c : ℕ) (d : NamedLink) → l.from ≡ Some c → 0 < l.marks → Has older d → d.from ≡ Some c → 0 < d.marks → IsEarlier d l

abbrev pub AreGrown : List NamedLink → Type 0
AreGrown [] = Unit {0}
AreGrown (l ∷ older) = Continues older l × AreGrown older
