-- What the shelf in memory holds.
use Rattle.std.specs.Prelude.{ℕ, List, Option, map, option_map, string_bytes}
use Rattle.std.specs.BTreeMap.{get_by_text}
use Rattle.rm_outside.specs.Told.{Told}
use Rattle.rm_outside.specs.declared.memory_shelf.MemoryShelf.{MemoryShelf}

-- what a name holds
abbrev pub held_of : MemoryShelf → List ℕ → Option (List ℕ)
held_of s name = option_map (λ v. v.items) (get_by_text s.files name)

-- the one count for every name
abbrev pub shelf_faults : MemoryShelf → ℕ
shelf_faults s = s.faults

-- the names that were fetched; None once memory for one of them was wanting
abbrev pub fetched_names : MemoryShelf → Option (List (List ℕ))
fetched_names s = option_map (λ names. map string_bytes names.items) s.fetched

-- all of it
abbrev pub shelf_told : MemoryShelf → Told
shelf_told s = record { held = held_of s; faults = λ name. shelf_faults s; fetched = fetched_names s }

-- the number of the next fetch
abbrev pub next_fetch : MemoryShelf → ℕ
next_fetch s = s.turn

-- the numbers of the fetches that fail
abbrev pub failing_fetches : MemoryShelf → List ℕ
failing_fetches s = s.failing.items
