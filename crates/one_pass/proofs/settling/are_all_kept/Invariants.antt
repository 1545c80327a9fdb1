use Rattle.std.proofs.Common.{◌≡◌, ◌<◌, ℕ, false}
use Rattle.one_pass.specs.Flags.{flag_at}
use Rattle.one_pass.proofs.settling.are_all_kept.Given as goal

-- none of those so far is told
abbrev pub invariant-loop-flag : goal.invariant-loop-flag
invariant-loop-flag l = (k : ℕ) → k < l.flag-index → flag_at l.settled k ≡ false
