-- What waits on the stack of an enumerator.
use Rattle.std.specs.Prelude.{◌≡◌, ℕ, zero, suc, ◌+◌, ◌*◌, ◌<◌, Bool, true, false, List, [], ◌∷◌}
use Rattle.std.specs.Int.Bits.{bit_or}
use Rattle.node_arena.specs.declared.row.Entry.{Entry}
use Rattle.node_arena.specs.declared.row.Entry.TheVariants.{Nothing, Done, Row}
use Rattle.span_core.specs.Lists.{Has}
use Rattle.node_arena.specs.Words.{Word}
use Rattle.node_arena.specs.Rows.{NamedRow, rows, IsThere}
use Rattle.enumerator.specs.declared.stack.Waiting.{Waiting}
use Rattle.enumerator.specs.Rows.{has}

-- a block that may follow settled markers: it is not empty, and has markers of v variables that are not settled
pub record IsNew (v m marks : ℕ) : Type 0 where
  pub some : 0 < marks
  pub own : (bit : ℕ) → has marks bit ≡ true → bit < 2 * v
  pub apart : (bit : ℕ) → has marks bit ≡ true → has m bit ≡ false

-- each block of a word may follow those before it
abbrev pub Fits : ℕ → ℕ → Word → Type 0
Fits v m [] = Unit {0}
Fits v m (x ∷ w) = IsNew v m x.1 × Fits v (bit_or m x.1) w

-- how many of the first n bits are not set
abbrev pub zero_bit : Bool → ℕ
zero_bit true = 0
zero_bit false = 1

abbrev pub unset : ℕ → ℕ → ℕ
unset zero m = 0
unset (suc n) m = zero_bit (has m n) + unset n m

-- how many markers of v variables are not settled
abbrev pub left : ℕ → ℕ → ℕ
left v m = unset (2 * v) m

abbrev pub AreMarksWithin : ℕ → ℕ → Type 0
AreMarksWithin m n = (bit : ℕ) → has m bit ≡ true → has n bit ≡ true

-- an entry under settled markers
abbrev pub frame : ℕ → Entry → Waiting
frame m e = record { settled = m; entry = e }

-- an entry that waits has rows, and their blocks may follow what is settled
pub record IsWaiting (store : List NamedRow) (v : ℕ) (f : Waiting) : Type 0 where
  pub there : IsThere store f.entry
  pub some : f.entry ≡ Nothing → ⊥
  pub fit : (w : Word) → Has (rows store f.entry) w → Fits v f.settled w

-- what waits below: less and less is settled
abbrev pub AreBelow : List NamedRow → ℕ → ℕ → List Waiting → Type 0
AreBelow store v m [] = Unit {0}
AreBelow store v m (f ∷ fs) = AreMarksWithin f.settled m × (left v m < left v f.settled) × IsWaiting store v f × AreBelow store v f.settled fs

abbrev pub AreStacked : List NamedRow → ℕ → List Waiting → Type 0
AreStacked store v [] = Unit {0}
AreStacked store v (f ∷ fs) = IsWaiting store v f × AreBelow store v f.settled fs

-- Nothing does not wait
abbrev pub waited : ℕ → Entry → List Waiting → List Waiting
waited m Nothing fs = fs
waited m Done fs = record { settled = m; entry = Done } ∷ fs
waited m (Row k) fs = record { settled = m; entry = Row k } ∷ fs
