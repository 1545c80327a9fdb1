use Rattle.std.proofs.Common.{◌≡◌, [], length}
use Rattle.marked_automaton.specs.Reach.{AreTargets}
use Rattle.settled_states.proofs.search.empty_lists.Given as goal

abbrev pub invariant-loop : goal.invariant-loop
invariant-loop l = record {
  len : length l.lists.items ≡ l.counter;
  empty : AreTargets [] l.lists.items;
}
