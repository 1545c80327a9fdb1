use Rattle.std.proofs.Common.{◌≡◌, length}
use Rattle.marked_automaton.specs.Trimmed.{count_set}
use Rattle.settled_states.proofs.Covers.{BoundsLasting}
use Rattle.settled_states.proofs.lasting.lasting_states.Given as goal

abbrev pub invariant-loop-flags : goal.invariant-loop-flags
invariant-loop-flags l = record {
  len : length l.flags.items ≡ l.automaton.graph.states;
  bounds : BoundsLasting l.automaton.graph l.flags.items;
}

abbrev pub decreases-loop-flags : goal.decreases-loop-flags
decreases-loop-flags l = count_set l.flags.items
