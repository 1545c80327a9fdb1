use Rattle.std.proofs.Common.{◌≡◌, length, take}
use Rattle.marked_automaton.specs.Reach.{AreTargets}
use Rattle.marked_automaton.specs.Trimmed.{edges_in}
use Rattle.marked_automaton.proofs.reach.targets.Given as goal

abbrev pub invariant-loop-way : goal.invariant-loop-way
invariant-loop-way l = record {
  len : length l.targets.items ≡ l.nodes;
  exactly : AreTargets (edges_in l.direction (take l.way-index l.ways)) l.targets.items;
}
