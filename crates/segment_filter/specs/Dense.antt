-- What a dense list tells of where sets go on bytes.
use Rattle.std.specs.Prelude.{◌≡◌, ℕ, zero, suc, ◌+◌, ◌*◌, ◌<◌, List, length, slice_get, Option, Some, None}
use Rattle.span_core.specs.Lists.{Has}
use Rattle.automaton_reading.specs.Reading.{byte_read}
use Rattle.set_table.specs.Tabled.{Tabled, look_up}
use Rattle.segment_filter.specs.Next.{IsNext}

-- the set that an entry tells: of 0 nothing is known, and 1 leads nowhere
abbrev pub target_told : ℕ → Option ℕ
target_told zero = None
target_told (suc zero) = None
target_told (suc (suc k)) = Some k

-- the set was asked for the byte, and goes there
pub record GoesTo (t : Tabled) (set b : ℕ) (to : Option ℕ) : Type 0 where
  pub given : set < length t.sets
  pub asked : Has t.look_ups (look_up t set (byte_read b))
  pub next : IsNext t set b t.sets to

-- entry 256 * set + b, where it is not 0, tells where the set goes on the byte
abbrev pub AreTold : Tabled → List ℕ → Type 0
AreTold t entries = (set b e : ℕ) → b < 256 → slice_get entries (256 * set + b) ≡ Some e → 0 < e → GoesTo t set b (target_told e)
