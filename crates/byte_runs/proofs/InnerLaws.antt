-- Where a text ends.
use Rattle.std.proofs.Common.{◌≡◌, ℕ, ◌+◌, ◌-◌, ◌<◌, ◌≤◌, List, length, arith, Some, None}
use Rattle.memchr.specs.Find.{FindsNeedle}
use Rattle.byte_runs.specs.Inner.{EndsNowhere}

pub ends_nowhere : (text d : List ℕ) → 0 < length text → FindsNeedle d text 0 None → EndsNowhere text d (length d)
ends_nowhere text d some nowhere j fits stands = nowhere j (omega arith) (omega (arith, fits)) (record { fits = fits; reads = stands })

pub ends_first : (text d : List ℕ) (found q : ℕ) → q ≡ found + (length text - 1) → 0 < length text → FindsNeedle d text 0 (Some found) → EndsNowhere text d q
ends_first text d found q is some first j fits stands =
    let within = first.1.fits in
    first.0.before j (omega arith) (omega (arith, fits, is, some)) (record { fits = omega (arith, fits, is, some, within); reads = stands })

pub nowhere_before : (text d : List ℕ) (q r : ℕ) → r ≤ q → EndsNowhere text d q → EndsNowhere text d r
nowhere_before text d q r le nowhere j fits stands = nowhere j (omega (arith, fits, le)) stands
