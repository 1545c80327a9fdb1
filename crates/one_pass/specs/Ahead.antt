-- What is worked out of the ways where a layer waits.
use Rattle.std.specs.Prelude.{List, Option, Some, None}
use Rattle.marked_automaton.specs.declared.way.Way.{Way}
use Rattle.way_exits.specs.Exits.{LeaveBy}
use Rattle.way_exits.specs.declared.waiting.Waiting.{Waiting}

-- what is known of states is true of these ways, where there are any
abbrev pub KnowsWaiting : List Way → Option Waiting → Type 0
KnowsWaiting ways None = Unit {0}
KnowsWaiting ways (Some w) = LeaveBy ways w.states.items w.exit
