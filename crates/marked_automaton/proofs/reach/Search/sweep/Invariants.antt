use Rattle.marked_automaton.proofs.Growing.{Sweeps}
use Rattle.marked_automaton.proofs.reach.Search.sweep.Given as goal

abbrev pub invariant-loop-way : goal.invariant-loop-way
invariant-loop-way l = Sweeps l.direction l.ways l.way-index l.initial.self l.self
