-- Parts whose places get other numbers.
use Rattle.std.specs.Prelude.{ℕ, ◌+◌, ◌<◌, List, map}
use Rattle.span_core.specs.Lists.{Has}
use Rattle.marked_automaton.specs.declared.way.Way.{Way}
use Rattle.marked_automaton.specs.declared.way.Stop.{Stop}
use Rattle.place_automaton.specs.declared.fragment.Entry.{Entry}
use Rattle.place_automaton.specs.Sides.{Sides}
use Rattle.place_automaton.specs.Places.{Places}

-- each place's number is raised by so many
abbrev pub entry_moved : ℕ → Entry → Entry
entry_moved by e = record { marks = e.marks; bytes = e.bytes; to = e.to + by }

abbrev pub stop_moved : ℕ → Stop → Stop
stop_moved by s = record { state = s.state + by; marks = s.marks }

abbrev pub way_moved : ℕ → Way → Way
way_moved by w = record { from = w.from + by; marks = w.marks; bytes = w.bytes; to = w.to + by }

abbrev pub sides_moved : ℕ → Sides → Sides
sides_moved by P = record { null = P.null; first = map (entry_moved by) P.first; last = map (stop_moved by) P.last }

abbrev pub places_moved : ℕ → Places → Places
places_moved by P = record {
  count = P.count;
  null = P.null;
  first = map (entry_moved by) P.first;
  last = map (stop_moved by) P.last;
  follow = map (way_moved by) P.follow;
}

-- the places at the ends and of the ways have numbers below n
pub record LieBelow (n : ℕ) (P : Sides) (ways : List Way) : Type 0 where
  pub firsts : (e : Entry) → Has P.first e → e.to < n
  pub lasts : (s : Stop) → Has P.last s → s.state < n
  pub froms : (w : Way) → Has ways w → w.from < n
  pub tos : (w : Way) → Has ways w → w.to < n
