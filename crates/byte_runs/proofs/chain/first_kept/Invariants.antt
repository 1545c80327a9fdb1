use Rattle.std.proofs.Common.{ℕ, ◌+◌, ◌<◌, ◌≤◌, length}
use Rattle.byte_runs.specs.Chains.{KeepTo}
use Rattle.byte_runs.proofs.chain.first_kept.Given as goal

-- from no place before do the bytes keep to all sets
abbrev pub invariant-loop : goal.invariant-loop
invariant-loop l =
    (l.place ≤ length l.bytes)
    × ((j : ℕ) → j < l.place → j + length l.sets ≤ length l.bytes → KeepTo l.sets l.bytes j (j + length l.sets) → ⊥)
