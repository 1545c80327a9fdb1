use Rattle.std.proofs.Common.{◌≡◌, length, take}
use Rattle.marked_automaton.specs.declared.way.Stop.{Stop}
use Rattle.marked_automaton.specs.Accepting.{Gathers}
use Rattle.settled_states.proofs.lasting.plain_ends.Given as goal

abbrev pub invariant-loop-stop : goal.invariant-loop-stop
invariant-loop-stop l = record {
  len : length l.flags.items ≡ l.states;
  gathers : Gathers (λ (x : Stop). x.marks ≡ 0) (λ (x : Stop). x.state) (take l.stop-index l.stops) l.flags.items;
}
