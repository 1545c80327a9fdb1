use Rattle.std.proofs.Common.{◌≡◌, length, take}
use Rattle.marked_automaton.specs.Reach.{AreTargets}
use Rattle.marked_automaton.specs.Trimmed.{back_edges_of}
use Rattle.settled_states.proofs.search.sources.Given as goal

abbrev pub invariant-loop-way : goal.invariant-loop-way
invariant-loop-way l = record {
  len : length l.sources.items ≡ l.states;
  exactly : AreTargets (back_edges_of (take l.way-index l.ways)) l.sources.items;
}
