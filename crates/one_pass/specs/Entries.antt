-- What is entered of layers and bytes.
use Rattle.std.specs.Prelude.{ℕ, if◌then◌else◌, slice_index_or}
use Rattle.one_pass.specs.Entered.{has_entry, entry_place}
use Rattle.one_pass.specs.declared.entries.Entries.{Entries}
use Rattle.one_pass.specs.declared.entries.Entry.{Entry}
use Rattle.one_pass.specs.declared.entries.Entry.TheVariants.{Unknown}

-- the entry of a byte's class in the layer of a number, where the byte was asked; and else none
abbrev pub entry_at : Entries → ℕ → ℕ → Entry
entry_at entries k b = if has_entry entries.asked.items k b then slice_index_or entries.entered.items (entry_place entries.classes.count entries.classes.numbers k b) Unknown else Unknown
