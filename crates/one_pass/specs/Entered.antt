-- Where entries of layers and bytes stand: by classes of bytes.
use Rattle.std.specs.Prelude.{ℕ, ◌+◌, ◌*◌, Bool, true, false, List, slice_index, slice_index_or}
use Rattle.std.specs.Ordering.{nat_cmp}
use Rattle.std.specs.FinSet as bytes
use Rattle.one_pass.specs.declared.entries.Entry.{Entry}
use Rattle.one_pass.specs.declared.entries.Entry.TheVariants.{Unknown, Glide, Run}

-- whether a byte was asked in the layer of a number
abbrev pub has_entry : List (bytes.FinSet nat_cmp) → ℕ → ℕ → Bool
has_entry asked k b = bytes.contains (slice_index_or asked k bytes.empty) b

-- the place of a byte's class, of so many, in the layer of a number
abbrev pub entry_place : ℕ → List ℕ → ℕ → ℕ → ℕ
entry_place count classes k b = count * k + slice_index classes b

-- whether an entry says something
abbrev pub is_entered : Entry → Bool
is_entered Unknown = false
is_entered (Glide n) = true
is_entered (Run n) = true
