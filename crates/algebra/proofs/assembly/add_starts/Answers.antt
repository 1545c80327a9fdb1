use Rattle.std.proofs.Common.{ap, ◌∙◌}
use Rattle.marked_automaton.specs.Automaton.{Automaton}
use Rattle.algebra.proofs.Assembled.{one_start_more}
use Rattle.algebra.proofs.assembly.add_starts.Goals as goal

pub loop-state-preserved : goal.loop-state-preserved
loop-state-preserved c =
    let inv = c.loop-state.invariant in
    let ok = c.in_ok-add_start.ensures.ok in
    record {
      names = c.add_start.ensures.names ∙ inv.names;
      starts = one_start_more c.args.automaton.now.graph.starts c.loop-state.automaton.graph.starts c.add_start.new.self.graph.starts c.loop-state.state
          inv.starts (ap (λ (g : Automaton). g.starts) ok);
      same = record {
        states = ap (λ (g : Automaton). g.states) ok ∙ inv.same.states;
        ways = ap (λ (g : Automaton). g.ways) ok ∙ inv.same.ways;
        stops = ap (λ (g : Automaton). g.stops) ok ∙ inv.same.stops;
        idle = ap (λ (g : Automaton). g.idle) ok ∙ inv.same.idle;
      };
    }
