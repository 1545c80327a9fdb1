use Rattle.std.proofs.Common.{◌≡◌, ◌-◌, ◌++◌, map, take, drop}
use Rattle.place_automaton.specs.Moves.{way_moved}
use Rattle.place_automaton.proofs.moving.push_moved_ways.Given as goal

abbrev pub invariant-loop-k : goal.invariant-loop-k
invariant-loop-k l = l.ways.items ≡ l.fn.ways.items ++ map (way_moved l.by) (take (l.k - l.from) (take (l.end - l.from) (drop l.from l.fn.ways.items)))
