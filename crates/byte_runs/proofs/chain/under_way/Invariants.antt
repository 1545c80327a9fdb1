use Rattle.std.proofs.Common.{ℕ, ◌<◌, ◌≤◌}
use Rattle.byte_runs.specs.Chains.{KeepTo}
use Rattle.byte_runs.proofs.chain.under_way.Given as goal

-- from none so far
abbrev pub invariant-loop-j : goal.invariant-loop-j
invariant-loop-j l = (i : ℕ) → l.first ≤ i → i < l.j → KeepTo l.sets l.bytes i l.place → ⊥
