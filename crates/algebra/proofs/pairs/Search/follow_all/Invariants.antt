use Rattle.std.proofs.Common.{◌+◌, ◌-◌, ◌*◌, ◌≤◌, take, length}
use Rattle.marked_automaton.specs.declared.TheConstants.{MOST_STATES}
use Rattle.algebra.specs.Pairs.{IsFollowed}
use Rattle.algebra.specs.Sides.{ways_of_all, ways_tried}
use Rattle.algebra.proofs.pairs.Search.follow_all.Given as goal

abbrev pub invariant-loop-done : goal.invariant-loop-done
invariant-loop-done l = record {
  followed : IsFollowed (ways_of_all l.left l.right (take l.done l.self.found.keys)) l.initial.self.found.keys l.initial.self.ways.items l.self.found.keys l.self.ways.items;
  within : l.done ≤ length l.self.found.keys;
  effort : l.effort ≤ l.initial.effort;
  steps : l.initial.effort ≤ l.effort + 3 * length (ways_tried l.left l.right (take l.done l.self.found.keys));
}

abbrev pub decreases-loop-done : goal.decreases-loop-done
decreases-loop-done l = MOST_STATES - l.done
