-- What the source in memory holds.
use Rattle.std.specs.Prelude.{ℕ, List, Some, drop}
use Rattle.rm_outside.specs.Flow.{Flow, flow}
use Rattle.rm_outside.specs.declared.memory_source.MemorySource.{MemorySource}

-- the bytes that are left
abbrev pub left_of : MemorySource → List ℕ
left_of s = drop s.at s.held.items

-- the count of faults
abbrev pub source_faults : MemorySource → ℕ
source_faults s = s.faults

-- all of it
abbrev pub source_told : MemorySource → Flow
source_told s = flow (Some (left_of s)) (source_faults s)

-- the number of the next call
abbrev pub next_call : MemorySource → ℕ
next_call s = s.turn

-- the numbers of the calls that fail
abbrev pub failing_calls : MemorySource → List ℕ
failing_calls s = s.failing.items
