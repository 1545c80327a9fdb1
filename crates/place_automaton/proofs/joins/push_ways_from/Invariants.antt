use Rattle.std.proofs.Common.{◌≡◌, ◌++◌, map, take}
use Rattle.place_automaton.specs.Places.{way_into}
use Rattle.place_automaton.proofs.joins.push_ways_from.Given as goal

abbrev pub invariant-loop-entry : goal.invariant-loop-entry
invariant-loop-entry l = l.ways.items ≡ l.fn.ways.items ++ map (way_into l.stop) (take l.entry-index l.first)
