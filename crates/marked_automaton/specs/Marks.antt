-- Blocks over some names, from blocks over others.
use Rattle.std.specs.Prelude.{◌≡◌, ℕ, ◌⊎◌, ◌+◌, ◌*◌, ◌^◌, ◌/◌, ◌%◌, List, [], ◌∷◌, length, map, None, if◌then◌else◌}
use Rattle.std.specs.Str.{bytes_eq}
use Rattle.span_core.specs.Block.{block}
use Rattle.spanner_model.specs.Captures.{VarName, Mapping, row_of}
use Rattle.span_core.specs.Lists.{Has}
use Rattle.marked_automaton.specs.declared.way.Way.{Way}
use Rattle.marked_automaton.specs.declared.way.Stop.{Stop}
use Rattle.marked_automaton.specs.Automaton.{Automaton}

-- the two bits that a name has in a block over these names: 2 where it opens, and 1 where it closes
abbrev pub bits_of : List VarName → ℕ → VarName → ℕ
bits_of [] m x = 0
bits_of (y ∷ ys) m x = if bytes_eq y x then m / 2 ^ (2 * length ys) else bits_of ys (m % 2 ^ (2 * length ys)) x

-- what is left, over the kept names, of a block over all names; a kept name that is not among them has no bits
abbrev pub left_of : List VarName → List VarName → ℕ → ℕ
left_of names [] m = 0
left_of names (x ∷ keep) m = bits_of names m x * 2 ^ (2 * length keep) + left_of names keep m

abbrev pub remarked_way : (ℕ → ℕ) → Way → Way
remarked_way e y = record { from = y.from; marks = e y.marks; bytes = y.bytes; to = y.to }

abbrev pub remarked_stop : (ℕ → ℕ) → Stop → Stop
remarked_stop e x = record { state = x.state; marks = e x.marks }

-- each block replaced by what e leaves of it
abbrev pub remarked : (ℕ → ℕ) → Automaton → Automaton
remarked e A = record {
  states = A.states;
  starts = A.starts;
  ways = map (remarked_way e) A.ways;
  stops = map (remarked_stop e) A.stops;
  idle = A.idle;
}

-- what is left of a row's blocks are the blocks of the row over the kept names, where those that it had no place for are absent
abbrev pub ErasingLaw : Type 0
ErasingLaw =
    (names keep : List VarName) (m : Mapping) → ((x : VarName) → Has keep x → Has names x ⊎ (m x ≡ None)) → (p : ℕ) →
    left_of names keep (block (row_of names m) p) ≡ block (row_of keep m) p
