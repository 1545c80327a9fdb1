use Rattle.std.proofs.Common.{◌≡◌, take}
use Rattle.std.specs.List.{filter_map}
use Rattle.marked_automaton.specs.Trimmed.{number_of}
use Rattle.marked_automaton.proofs.trimming.Numbers.states.Given as goal

abbrev pub invariant-loop-state : goal.invariant-loop-state
invariant-loop-state l = l.kept.items ≡ filter_map (number_of l.self.numbers.items) (take l.state-index l.states)
