-- What the sink in memory holds, and what it takes of a put.
use Rattle.std.specs.Prelude.{ℕ, ◌-◌, ◌==◌, List, Option, Some, length, min, find, option_map, unwrap_or}
use Rattle.rm_outside.specs.Flow.{Flow, flow}
use Rattle.rm_outside.specs.declared.memory_sink.MemorySink.{MemorySink}

-- the bytes written
abbrev pub written_of : MemorySink → List ℕ
written_of s = s.bytes.items

-- the count of faults
abbrev pub sink_faults : MemorySink → ℕ
sink_faults s = s.faults

-- all of it
abbrev pub sink_told : MemorySink → Flow
sink_told s = flow (Some (written_of s)) (sink_faults s)

-- the most bytes that it holds
abbrev pub capacity_of : MemorySink → ℕ
capacity_of s = s.capacity

-- the number of the next put
abbrev pub next_put : MemorySink → ℕ
next_put s = s.turn

-- the numbers of the puts that fail, each with the most bytes that it takes
abbrev pub failing_puts : MemorySink → List (ℕ × ℕ)
failing_puts s = s.failing.items

-- the most bytes that the next put takes, where it is one of those that fail
abbrev pub most_of_next : MemorySink → Option ℕ
most_of_next s = option_map (λ p. p.1) (find (λ p. p.0 == next_put s) (failing_puts s))

-- how many of so many bytes the next put takes
abbrev pub taken_by : MemorySink → ℕ → ℕ
taken_by s count = min (min count (unwrap_or (most_of_next s) count)) (capacity_of s - length (written_of s))
