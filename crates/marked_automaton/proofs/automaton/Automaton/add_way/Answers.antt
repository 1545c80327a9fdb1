use Rattle.std.proofs.Common.{◌↔◌, ◌++◌, ◌∷◌, [], IsTrue, List, ◌*◌, ◌^◌, ◌<◌, length, arith, sym, ap, subst}
use Rattle.marked_automaton.specs.declared.way.Way.{Way}
use Rattle.marked_automaton.specs.Automaton.{AreGrouped, Marked, IsMarked}
use Rattle.marked_automaton.specs.Inside.{graph_of}
use Rattle.marked_automaton.proofs.Parts.{way_is_marked}
use Rattle.marked_automaton.proofs.automaton.Automaton.add_way.Goals as goal

pub invariant_of-self-2 : goal.invariant_of-self-2
invariant_of-self-2 c =
    let a = c.self.inside in
    let from : c.args.way.from < a.states = omega (arith, c.requires.from, ap (λ (A : Marked). A.graph.states) c.self.view_is) in
    let to : c.args.way.to < a.states = omega (arith, c.requires.to, ap (λ (A : Marked). A.graph.states) c.self.view_is) in
    let marks = subst (λ (A : Marked). c.args.way.marks < 2 ^ (2 * length A.names)) (sym c.self.view_is) c.requires.marks in (
      subst (λ xs. IsMarked (record { names = a.vars; graph = graph_of a.states a.starts.items xs a.stops.items a.idle.items }))
          (sym c.in_ok-push.ensures.items) (way_is_marked _ c.self.invariant.0 c.args.way (omega arith) from to marks c.requires.bytes),
      c.self.invariant.1,
      subst (λ (xs : List Way). IsTrue c.stay_grouped-grouped.result ↔ AreGrouped xs) (sym c.in_ok-push.ensures.items)
          (subst (λ (xs : List Way). IsTrue c.stay_grouped-grouped.result ↔ AreGrouped (xs ++ c.args.way ∷ [])) c.as_slice.ensures.value c.stay_grouped-grouped.ensures),
    )
