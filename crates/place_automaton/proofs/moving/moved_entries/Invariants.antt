use Rattle.std.proofs.Common.{◌≡◌, map, take}
use Rattle.place_automaton.specs.Moves.{entry_moved}
use Rattle.place_automaton.proofs.moving.moved_entries.Given as goal

abbrev pub invariant-loop-entry : goal.invariant-loop-entry
invariant-loop-entry l = l.moved.items ≡ map (entry_moved l.by) (take l.entry-index l.entries)
