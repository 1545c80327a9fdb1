use Rattle.std.proofs.Common.{ℕ, ◌↔◌, IsTrue, List, sym, ap, subst, arith, ◌∙◌}
use Rattle.marked_automaton.specs.declared.way.Way.{Way}
use Rattle.marked_automaton.specs.Automaton.{AreGrouped, Automaton, Marked, IsMarked, reversed}
use Rattle.marked_automaton.specs.Inside.{graph_of}
use Rattle.marked_automaton.proofs.Parts.{resized, reversed_graph, reversed_is_marked}
use Rattle.marked_automaton.proofs.automaton.Automaton.reverse.Goals as goal

pub invariant_of-result : goal.invariant_of-result
invariant_of-result c =
    let a = c.self.inside in
    let B = graph_of a.states a.starts.items a.ways.items a.stops.items a.idle.items in
    let made = reversed_graph B c.as_slice-3.result.now c.as_slice.result.now c.as_slice-4.result.now c.in_ok-end_states.field-0.items c.in_ok-ways.ways.items
    c.in_ok-turned_starts.field-0.items c.resize.new.self.items c.as_slice-3.ensures.value c.as_slice.ensures.value c.as_slice-4.ensures.value
    c.in_ok-end_states.ensures c.in_ok-ways.ensures c.in_ok-turned_starts.ensures
    (resized c.new-idle.result.items c.resize.new.self.items a.states _ c.new-idle.ensures.items c.new-idle.ensures.len c.in_ok-resize.ensures.items) in (
      subst (λ (v : List (List ℕ)). IsMarked
          (record { names = v; graph = graph_of a.states c.in_ok-end_states.field-0.items c.in_ok-ways.ways.items c.in_ok-turned_starts.field-0.items c.resize.new.self.items })) (sym c.copy.ensures)
          (subst (λ (G : Automaton). IsMarked (record { names = a.vars; graph = G })) (sym made) (reversed_is_marked _ c.self.invariant.0)),
      omega (arith, c.in_ok-resize.ensures.len),
      subst (λ (xs : List Way). IsTrue c.are_grouped-grouped.result ↔ AreGrouped xs) c.as_slice-2.ensures.value c.are_grouped-grouped.ensures,
    )

pub returns-clause-graph : goal.returns-clause-graph
returns-clause-graph c =
    let a = c.self.inside in
    let B = graph_of a.states a.starts.items a.ways.items a.stops.items a.idle.items in
    let made = reversed_graph B c.as_slice-3.result.now c.as_slice.result.now c.as_slice-4.result.now c.in_ok-end_states.field-0.items c.in_ok-ways.ways.items
    c.in_ok-turned_starts.field-0.items c.resize.new.self.items c.as_slice-3.ensures.value c.as_slice.ensures.value c.as_slice-4.ensures.value
    c.in_ok-end_states.ensures c.in_ok-ways.ensures c.in_ok-turned_starts.ensures
    (resized c.new-idle.result.items c.resize.new.self.items a.states _ c.new-idle.ensures.items c.new-idle.ensures.len c.in_ok-resize.ensures.items) in
    made ∙ ap (λ (M : Marked). reversed M.graph) c.self.view_is
