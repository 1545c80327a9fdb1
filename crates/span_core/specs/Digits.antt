-- A block as a number in base 4: each variable is a digit, and the first variable's is the highest.
use Rattle.std.specs.Prelude.{ℕ, ◌+◌, ◌-◌, ◌*◌, ◌^◌, ◌==◌, Option, None, Some}
use Rattle.std.specs.Int.{from_bool}
use Rattle.span_core.specs.declared.span.Span.{Span}

-- the markers of one variable at a position: 2 where its span starts, and 1 where it ends; 0 throughout for one that is absent
abbrev pub digit : Option Span → ℕ → ℕ
digit None at = 0
digit (Some span) at = 2 * from_bool (span.start == at) + from_bool (span.end == at)

-- what the digit of variable k of v counts
abbrev pub weight : ℕ → ℕ → ℕ
weight v k = 2 ^ (2 * (v - (k + 1)))
