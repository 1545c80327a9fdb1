use Rattle.std.proofs.Common.{ℕ, ◌≡◌, take}
use Rattle.std.specs.Prelude.{IsTrue}
use Rattle.span_core.specs.Lists.{Has}
use Rattle.plain_spanner.proofs.rows.some_ends_there.Given as goal

abbrev pub invariant-loop-known : goal.invariant-loop-known
invariant-loop-known l = (j : ℕ) → Has (take l.known-index l.ends) j → (IsTrue l.to_end → j ≡ l.end) → ⊥
