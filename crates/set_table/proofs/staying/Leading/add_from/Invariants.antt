use Rattle.std.proofs.Common.{take}
use Rattle.std.specs.List.{flat_map}
use Rattle.marked_automaton.specs.Automaton.{ways_from}
use Rattle.set_table.specs.Staying.{AreGathered}
use Rattle.set_table.proofs.staying.Leading.add_from.Given as goal

abbrev pub invariant-loop-state : goal.invariant-loop-state
invariant-loop-state l = AreGathered l.members (flat_map (ways_from l.automaton.graph.ways) (take l.state-index l.members)) l.self
