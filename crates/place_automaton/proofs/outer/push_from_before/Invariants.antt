use Rattle.std.proofs.Common.{◌≡◌, ◌++◌, map, take}
use Rattle.place_automaton.specs.Atom.{way_from_first}
use Rattle.place_automaton.proofs.outer.push_from_before.Given as goal

abbrev pub invariant-loop-entry : goal.invariant-loop-entry
invariant-loop-entry l = l.ways.items ≡ l.fn.ways.items ++ map way_from_first (take l.entry-index l.first)
