use Rattle.std.proofs.Common.{◌≡◌, List, ◌++◌, length, take}
use Rattle.marked_automaton.specs.declared.way.Way.{Way}
use Rattle.set_table.specs.Staying.{AreGathered}
use Rattle.set_table.proofs.staying.Leading.add_all.Given as goal

abbrev pub invariant-loop-way : goal.invariant-loop-way
invariant-loop-way l =
    (length l.self.to_members.items ≡ length l.members)
    × ((before : List Way) → AreGathered l.members before l.initial.self → AreGathered l.members (before ++ take l.way-index l.ways) l.self)
