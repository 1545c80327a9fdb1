use Rattle.std.proofs.Common.{◌≡◌, ◌++◌, map, take, drop}
use Rattle.place_automaton.specs.Places.{entry_with}
use Rattle.place_automaton.proofs.joins.mark_entries.Given as goal

abbrev pub invariant-loop-entry : goal.invariant-loop-entry
invariant-loop-entry l = l.entries ≡ map (entry_with l.marks) (take l.entry-index l.fn.entries) ++ drop l.entry-index l.fn.entries
