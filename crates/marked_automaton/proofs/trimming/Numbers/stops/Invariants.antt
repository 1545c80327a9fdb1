use Rattle.std.proofs.Common.{◌≡◌, take}
use Rattle.std.specs.List.{filter_map}
use Rattle.marked_automaton.specs.Trimmed.{moved_stop}
use Rattle.marked_automaton.proofs.trimming.Numbers.stops.Given as goal

abbrev pub invariant-loop-stop : goal.invariant-loop-stop
invariant-loop-stop l = l.kept.items ≡ filter_map (moved_stop l.self.numbers.items) (take l.stop-index l.stops)
