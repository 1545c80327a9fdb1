-- Where the bits of variables stand in blocks over others.
use Rattle.std.specs.Prelude.{ℕ, ◌+◌, ◌*◌, ◌^◌, ◌/◌, ◌%◌, ◌<◌, ◌≤◌, Bool, List, [], ◌∷◌, length, Option, Some, None, if◌then◌else◌}
use Rattle.std.specs.Str.{bytes_eq}
use Rattle.span_core.specs.declared.TheConstants.{MOST_VARIABLES}
use Rattle.spanner_model.specs.Captures.{VarName}
use Rattle.span_core.specs.Lists.{Has}
use Rattle.span_core.specs.NameSets.{has_name}
use Rattle.marked_automaton.specs.declared.way.Way.{Way}
use Rattle.marked_automaton.specs.declared.way.Stop.{Stop}
use Rattle.marked_automaton.specs.Marks.{remarked_way, remarked_stop}
use Rattle.algebra.specs.declared.halves.HalfWay.{HalfWay}
use Rattle.algebra.specs.declared.halves.HalfStop.{HalfStop}

-- how far up the two bits of x stand in a block over these names
abbrev pub place_shift : List VarName → VarName → Option ℕ
place_shift [] x = None
place_shift (y ∷ ys) x = if bytes_eq y x then Some (2 * length ys) else place_shift ys x

-- the same, but nothing where the other names have x against what is wanted
abbrev pub shift_of : List VarName → List VarName → Bool → VarName → Option ℕ
shift_of names other wanted x =
    if has_name other x then (if wanted then place_shift names x else None) else (if wanted then None else place_shift names x)

-- the two bits so far up
abbrev pub bits_up : Option ℕ → ℕ → ℕ
bits_up None m = 0
bits_up (Some s) m = m / 2 ^ s % 4

-- the block that has these bits of m, two after two
abbrev pub moved_marks : List (Option ℕ) → ℕ → ℕ
moved_marks [] m = 0
moved_marks (s ∷ shifts) m = bits_up s m * 2 ^ (2 * length shifts) + moved_marks shifts m

-- of no more variables than a set has where their bits stand in numbers of 64 bits
pub record AreShifts (shifts : List (Option ℕ)) : Type 0 where
  pub few : length shifts ≤ MOST_VARIABLES
  pub small : (s : ℕ) → Has shifts (Some s) → s < 64

-- the parts of one side with the bits that it brings, and those by which it has to agree
abbrev pub half_way : List (Option ℕ) → List (Option ℕ) → Way → HalfWay
half_way own shared y = record { way = remarked_way (moved_marks own) y; shared = moved_marks shared y.marks }

abbrev pub half_stop : List (Option ℕ) → List (Option ℕ) → Stop → HalfStop
half_stop own shared x = record { stop = remarked_stop (moved_marks own) x; shared = moved_marks shared x.marks }
