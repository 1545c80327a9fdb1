use Rattle.std.proofs.Common.{◌≡◌, ◌≤◌, ◌↔◌, IsTrue, List, length, arith, sym, ap, subst, ◌∙◌}
use Rattle.marked_automaton.specs.declared.TheConstants.{MOST_WAYS}
use Rattle.marked_automaton.specs.declared.way.Way.{Way}
use Rattle.marked_automaton.specs.Automaton.{AreGrouped, Marked, IsMarked, IsWayOf}
use Rattle.marked_automaton.specs.Inside.{graph_of}
use Rattle.marked_automaton.proofs.Parts.{ways_are_marked, with_ways_graph, each_way}
use Rattle.marked_automaton.proofs.automaton.Automaton.with_ways.Goals.{else-len-gt-MOST_WAYS-via-then-len-gt-MOST_WAYS+else-states-le-MOST_STATES, else-len-gt-MOST_WAYS-via-else-len-gt-MOST_WAYS}
use Rattle.marked_automaton.proofs.automaton.Automaton.with_ways.Goals as goal

pub invariant_of-automaton : goal.invariant_of-automaton
invariant_of-automaton c =
    let a = c.automaton.inside in
    let ok = c.in_ok-automaton.ensures.ok in
    let few = c.in_ok-automaton.ensures.few in
    let names : a.vars ≡ c.args.vars = ap (λ (A : Marked). A.names) c.automaton.view_is ∙ ok.0 in
    let graph = ap (λ (A : Marked). A.graph) c.automaton.view_is ∙ ok.1 in
    let few_ways : length c.args.ways.items ≤ MOST_WAYS = elim c.else-len-gt-MOST_WAYS.branch [
      | else-len-gt-MOST_WAYS-via-then-len-gt-MOST_WAYS+else-states-le-MOST_STATES w ↦ omega (arith, few)
      | else-len-gt-MOST_WAYS-via-else-len-gt-MOST_WAYS w ↦ omega arith
    ] in (
      subst (λ v. IsMarked (record { names = v; graph = graph_of a.states a.starts.items c.args.ways.items a.stops.items a.idle.items })) (sym names)
          (subst (λ A. IsMarked (record { names = c.args.vars; graph = A }))
          (sym (with_ways_graph c.args.states (graph_of a.states a.starts.items a.ways.items a.stops.items a.idle.items) c.args.ways.items graph))
          (ways_are_marked c.args.vars c.args.states c.args.ways.items few few_ways
          (each_way (IsWayOf c.args.states (length c.args.vars)) c.args.ways.items c.requires))),
      c.automaton.invariant.1,
      subst (λ (xs : List Way). IsTrue c.are_grouped.result ↔ AreGrouped xs) c.as_slice.ensures.value c.are_grouped.ensures,
    )
