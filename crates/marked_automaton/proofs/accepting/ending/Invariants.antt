use Rattle.std.proofs.Common.{◌≡◌, length, take}
use Rattle.marked_automaton.specs.declared.way.Stop.{Stop}
use Rattle.marked_automaton.specs.Accepting.{Gathers}
use Rattle.marked_automaton.proofs.accepting.ending.Given as goal

abbrev pub invariant-loop-stop : goal.invariant-loop-stop
invariant-loop-stop l = record {
  len : length l.good.items ≡ l.states;
  gathers : Gathers (λ (x : Stop). x.marks ≡ l.marks) (λ (x : Stop). x.state) (take l.stop-index l.stops) l.good.items;
}
