use Rattle.std.proofs.Common.{◌≡◌, ℕ, ◌<◌, length, false, get_or}
use Rattle.std.specs.FinSet as bytes
use Rattle.byte_runs.proofs.chain.inside_of.Given as goal

abbrev pub invariant-loop-byte : goal.invariant-loop-byte
invariant-loop-byte l = (length l.inside ≡ 256) × ((b : ℕ) → b < l.byte → get_or l.inside b false ≡ bytes.contains l.set b)
