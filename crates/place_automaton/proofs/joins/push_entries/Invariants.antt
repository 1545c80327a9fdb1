use Rattle.std.proofs.Common.{◌≡◌, ◌++◌, map, take}
use Rattle.place_automaton.specs.Places.{entry_with}
use Rattle.place_automaton.proofs.joins.push_entries.Given as goal

abbrev pub invariant-loop-entry : goal.invariant-loop-entry
invariant-loop-entry l = l.all.items ≡ l.fn.all.items ++ map (entry_with l.marks) (take l.entry-index l.entries)
