use Rattle.std.proofs.Common.{◌≡◌, ◌||◌, Some, slice_get, sym, ap, ◌∙◌, add-one, take}
use Rattle.std.proofs.lemmas.Option.{slice_get-get_or}
use Rattle.span_core.specs.declared.edge.Edge.{Edge}
use Rattle.output_graph.proofs.HeldLaws.{take_next}
use Rattle.output_graph.proofs.PlanLaws.{edges_next, edges_none, or_no, or_yes}
use Rattle.output_graph.proofs.program.add_edges.Goals as goal
use Rattle.output_graph.proofs.program.add_edges.Goals.{then-branch, else-branch}

pub loop-edge-init : goal.loop-edge-init
loop-edge-init c = edges_none c.args.source c.args.plan.now c.requires

pub loop-edge-preserved : goal.loop-edge-preserved
loop-edge-preserved c =
    let i = c.loop-edge.edge-index in
    let e : Edge = c.edge-item.result in
    let there : slice_get c.args.edges.now i ≡ Some e = slice_get-get_or c.args.edges.now i e c.loop-edge-test.true ∙ ap Some (sym c.edge-item.is) in
    let now : c.if-branch.kept ≡ (c.loop-edge.kept || c.in_ok-add_edge.field-0) =
    elim c.if-branch.branch as (λ _. c.if-branch.kept ≡ (c.loop-edge.kept || c.in_ok-add_edge.field-0)) [
      | then-branch w ↦ w.kept-is ∙ or_yes c.loop-edge.kept c.in_ok-add_edge.field-0 w.if-branch.true
      | else-branch w ↦ w.kept-is ∙ or_no c.loop-edge.kept c.in_ok-add_edge.field-0 w.if-branch.false
    ] in
    rw (add-one, take_next c.args.edges.now i e there)
    (edges_next c.args.source c.args.plan.now (take i c.args.edges.now) c.loop-edge.plan c.loop-edge.kept c.loop-edge.invariant e c.add_edge.new.plan
    c.in_ok-add_edge.field-0 c.if-branch.kept c.in_ok-add_edge.ensures now)
