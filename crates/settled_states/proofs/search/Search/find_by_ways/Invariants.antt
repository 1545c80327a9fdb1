use Rattle.std.proofs.Common.{take}
use Rattle.settled_states.specs.States.{HasMarkedWay}
use Rattle.settled_states.proofs.Marking.{IsFoundSoFar}
use Rattle.settled_states.proofs.search.Search.find_by_ways.Given as goal

abbrev pub invariant-loop-way : goal.invariant-loop-way
invariant-loop-way l = IsFoundSoFar (HasMarkedWay l.ways) (HasMarkedWay (take l.way-index l.ways)) l.initial.self l.self
