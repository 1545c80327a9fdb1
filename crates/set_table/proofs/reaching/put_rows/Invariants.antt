use Rattle.std.proofs.Common.{take}
use Rattle.std.specs.List.{flat_map}
use Rattle.span_core.specs.Lists.{Has}
use Rattle.set_table.specs.Cut.{codes_at}
use Rattle.set_table.specs.Runs.{AreIndexed, AreSeen, Gains}
use Rattle.set_table.proofs.reaching.put_rows.Given as goal

abbrev pub invariant-loop-state : goal.invariant-loop-state
invariant-loop-state l =
    Gains l.initial.codes.items l.codes.items (Has (flat_map (codes_at l.automaton.graph.ways l.byte) (take l.state-index l.members)))
    × AreSeen l.seen l.codes.items × AreIndexed l.automaton.graph.ways l.runs
