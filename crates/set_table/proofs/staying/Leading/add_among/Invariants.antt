use Rattle.std.proofs.Common.{take}
use Rattle.std.specs.List.{filter}
use Rattle.marked_automaton.specs.declared.way.Way.{Way}
use Rattle.automaton_reading.specs.Reading.{is_among}
use Rattle.set_table.specs.Staying.{AreGathered}
use Rattle.set_table.proofs.staying.Leading.add_among.Given as goal

abbrev pub invariant-loop-way : goal.invariant-loop-way
invariant-loop-way l = AreGathered l.members (filter (λ (y : Way). is_among l.members y.from) (take l.way-index l.ways)) l.self
