use Rattle.std.proofs.Common.{◌≡◌, length, take}
use Rattle.marked_automaton.specs.declared.way.Way.{Way}
use Rattle.marked_automaton.specs.Accepting.{Gathers, Takes}
use Rattle.marked_automaton.proofs.accepting.leading.Given as goal

abbrev pub invariant-loop-way : goal.invariant-loop-way
invariant-loop-way l = record {
  len : length l.before.items ≡ l.states;
  gathers : Gathers (Takes l.marks l.byte l.good) (λ (y : Way). y.from) (take l.way-index l.ways) l.before.items;
}
