use Rattle.std.proofs.Common.{◌<◌, arith, sym, ap, subst}
use Rattle.marked_automaton.specs.Automaton.{Marked, IsMarked}
use Rattle.marked_automaton.specs.Inside.{graph_of}
use Rattle.marked_automaton.proofs.Parts.{start_is_marked}
use Rattle.marked_automaton.proofs.automaton.Automaton.add_start.Goals as goal

pub invariant_of-self-2 : goal.invariant_of-self-2
invariant_of-self-2 c =
    let a = c.self.inside in
    let here : c.args.state < a.states = omega (arith, c.requires, ap (λ (A : Marked). A.graph.states) c.self.view_is) in (
      subst (λ xs. IsMarked (record { names = a.vars; graph = graph_of a.states xs a.ways.items a.stops.items a.idle.items }))
          (sym c.in_ok-push.ensures.items) (start_is_marked _ c.self.invariant.0 c.args.state here),
      c.self.invariant.1,
      c.self.invariant.2,
    )
