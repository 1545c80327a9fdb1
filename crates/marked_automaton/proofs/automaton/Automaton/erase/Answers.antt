use Rattle.std.proofs.Common.{ℕ, List, length, refl, sym, ap, subst, ◌∙◌}
use Rattle.marked_automaton.specs.Automaton.{Automaton, Marked, IsMarked}
use Rattle.marked_automaton.specs.Inside.{graph_of}
use Rattle.marked_automaton.specs.Marks.{left_of, remarked, remarked_way}
use Rattle.marked_automaton.specs.Erased.{picked}
use Rattle.marked_automaton.proofs.Grouped.{grouped_as_before}
use Rattle.marked_automaton.proofs.Erased.{erased_graph, erased_marked}
use Rattle.marked_automaton.proofs.automaton.Automaton.erase.Goals as goal

pub invariant_of-result : goal.invariant_of-result
invariant_of-result c =
    let a = c.self.inside in
    let B = graph_of a.states a.starts.items a.ways.items a.stops.items a.idle.items in
    let e = c.in_ok-eraser.eraser in
    let known = c.in_ok-eraser.ensures in
    let made = erased_graph a.vars c.args.keep.now e.places.items known.ascending known.places B c.self.invariant.0 e.all c.as_slice-2.result.now c.in_ok-ways.field-0.items
    c.as_slice-3.result.now c.in_ok-stops.field-0.items c.in_ok-copy_of.field-0.items c.in_ok-copy_of-2.field-0.items a.idle.items known.all c.as_slice-2.ensures.value c.as_slice-3.ensures.value
    (c.in_ok-copy_of.ensures ∙ c.as_slice.ensures.value) (c.in_ok-copy_of-2.ensures ∙ c.as_slice-4.ensures.value) refl c.in_ok-ways.ensures c.in_ok-stops.ensures in (
      subst (λ (v : List (List ℕ)). IsMarked
          (record { names = v; graph = graph_of a.states c.in_ok-copy_of.field-0.items c.in_ok-ways.field-0.items c.in_ok-stops.field-0.items c.in_ok-copy_of-2.field-0.items })) (sym c.copy.ensures)
          (subst (λ (G : Automaton). IsMarked (record { names = c.args.keep.now; graph = G })) (sym made)
          (erased_marked a.vars c.args.keep.now e.places.items known.ascending known.places B c.self.invariant.0)),
      ap length (c.in_ok-copy_of-2.ensures ∙ c.as_slice-4.ensures.value) ∙ c.self.invariant.1,
      grouped_as_before a.grouped (remarked_way (picked e.all e.places.items)) (λ y. refl) a.ways.items c.as_slice-2.result.now c.in_ok-ways.field-0.items
          c.as_slice-2.ensures.value c.in_ok-ways.ensures c.self.invariant.2,
    )

pub returns-clause-graph : goal.returns-clause-graph
returns-clause-graph c =
    let a = c.self.inside in
    let B = graph_of a.states a.starts.items a.ways.items a.stops.items a.idle.items in
    let e = c.in_ok-eraser.eraser in
    let known = c.in_ok-eraser.ensures in
    let made = erased_graph a.vars c.args.keep.now e.places.items known.ascending known.places B c.self.invariant.0 e.all c.as_slice-2.result.now c.in_ok-ways.field-0.items
    c.as_slice-3.result.now c.in_ok-stops.field-0.items c.in_ok-copy_of.field-0.items c.in_ok-copy_of-2.field-0.items a.idle.items known.all c.as_slice-2.ensures.value c.as_slice-3.ensures.value
    (c.in_ok-copy_of.ensures ∙ c.as_slice.ensures.value) (c.in_ok-copy_of-2.ensures ∙ c.as_slice-4.ensures.value) refl c.in_ok-ways.ensures c.in_ok-stops.ensures in
    made ∙ ap (λ (M : Marked). remarked (left_of M.names c.args.keep.now) M.graph) c.self.view_is
