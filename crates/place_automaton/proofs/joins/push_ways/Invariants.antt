use Rattle.std.proofs.Common.{◌≡◌, ◌++◌, take}
use Rattle.place_automaton.specs.Places.{ways_between}
use Rattle.place_automaton.proofs.joins.push_ways.Given as goal

abbrev pub invariant-loop-stop : goal.invariant-loop-stop
invariant-loop-stop l = l.ways.items ≡ l.fn.ways.items ++ ways_between (take l.stop-index l.last) l.first
