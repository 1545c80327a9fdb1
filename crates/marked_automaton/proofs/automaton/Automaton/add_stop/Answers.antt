use Rattle.std.proofs.Common.{◌*◌, ◌^◌, ◌<◌, length, arith, sym, ap, subst}
use Rattle.marked_automaton.specs.Automaton.{Marked, IsMarked}
use Rattle.marked_automaton.specs.Inside.{graph_of}
use Rattle.marked_automaton.proofs.Parts.{stop_is_marked}
use Rattle.marked_automaton.proofs.automaton.Automaton.add_stop.Goals as goal

pub invariant_of-self-2 : goal.invariant_of-self-2
invariant_of-self-2 c =
    let a = c.self.inside in
    let here : c.args.stop.state < a.states = omega (arith, c.requires.state, ap (λ (A : Marked). A.graph.states) c.self.view_is) in
    let marks = subst (λ (A : Marked). c.args.stop.marks < 2 ^ (2 * length A.names)) (sym c.self.view_is) c.requires.marks in (
      subst (λ xs. IsMarked (record { names = a.vars; graph = graph_of a.states a.starts.items a.ways.items xs a.idle.items }))
          (sym c.in_ok-push.ensures.items) (stop_is_marked _ c.self.invariant.0 c.args.stop here marks),
      c.self.invariant.1,
      c.self.invariant.2,
    )
