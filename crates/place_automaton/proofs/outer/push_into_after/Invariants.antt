use Rattle.std.proofs.Common.{◌≡◌, ◌++◌, map, take}
use Rattle.place_automaton.specs.Atom.{way_after}
use Rattle.place_automaton.proofs.outer.push_into_after.Given as goal

abbrev pub invariant-loop-stop : goal.invariant-loop-stop
invariant-loop-stop l = l.ways.items ≡ l.fn.ways.items ++ map (way_after l.after) (take l.stop-index l.last)
