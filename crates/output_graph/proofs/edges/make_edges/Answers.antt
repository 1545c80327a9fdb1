use Rattle.std.proofs.Common.{◌≡◌, ◌+◌, [], ◌∷◌, ◌++◌, ◌∙◌, ap, inl, refl, take, arith, add-one}
use Rattle.output_graph.specs.Source.{Edges}
use Rattle.output_graph.specs.Sound.{edges_of}
use Rattle.output_graph.proofs.EdgeLaws.{link_there, link_apart, none_ends}
use Rattle.output_graph.proofs.MakeLaws.{marks_none, marks_some, made_more, made_ends, can_edge, can_now, edge_has, last_edge, can_last, edges_cut, edges_all, edges_more, length_edges}
use Rattle.output_graph.proofs.edges.make_edges.Goals as goal

pub pass_on-requires-clause-can : goal.pass_on-requires-clause-can
pass_on-requires-clause-can g c =
    can_last (marks_none c.is_none.ensures c.if-is_none.true)
    (can_edge c.args.edges.now c.loop-edge.edge-index c.loop-edge-test.true c.edge-item.is c.loop-edge.invariant.made c.requires.can).1

pub pass_on-requires-clause-covered : goal.pass_on-requires-clause-covered
pass_on-requires-clause-covered g c =
    omega (arith, c.loop-edge.invariant.known, c.requires.covered _ (edge_has c.args.edges.now c.loop-edge.edge-index c.loop-edge-test.true c.edge-item.is))

pub returns-then-is_none-clause-ended : goal.returns-then-is_none-clause-ended
returns-then-is_none-clause-ended g c =
    let cut = edges_cut c.args.edges.now c.loop-edge.edge-index c.loop-edge-test.true c.edge-item.is in
    let none = marks_none c.is_none.ensures c.if-is_none.true in
    let one = last_edge none (can_now c.loop-edge.invariant.made ((c.edge-item.result.marks, c.edge-item.result.to) ∷ cut.0) cut.1 c.requires.can) in
    let es : Edges = edges_of (take c.loop-edge.edge-index c.args.edges.now) in
    let is : edges_of c.args.edges.now ≡ es ++ (0, c.edge-item.result.to) ∷ [] =
    cut.1 ∙ (ap (λ (r : Edges). es ++ (c.edge-item.result.marks, c.edge-item.result.to) ∷ r) one ∙ ap (λ n. es ++ (n, c.edge-item.result.to) ∷ []) none) in
    rw is (made_ends c.loop-edge.invariant.made c.pass_on.ensures.ended)

pub returns-then-is_none-clause-spent : goal.returns-then-is_none-clause-spent
returns-then-is_none-clause-spent g c =
    let inv = c.loop-edge.invariant in
    let more = inv.made.more in
    let len = length_edges c.args.edges.now c.loop-edge.edge-index (omega arith) in
    let spent = c.pass_on.ensures.spent in
    record { made = c.loop-edge.edge-index + spent.made; few = omega arith; more = omega arith; bound = omega arith }

pub link_edge-cell-requires-clause-covered : goal.link_edge-cell-requires-clause-covered
link_edge-cell-requires-clause-covered g c =
    omega (arith, c.loop-edge.invariant.known, c.requires.covered _ (edge_has c.args.edges.now c.loop-edge.edge-index c.loop-edge-test.true c.edge-item.is))

pub link_edge-cell-requires-clause-from : goal.link_edge-cell-requires-clause-from
link_edge-cell-requires-clause-from g c =
    link_there (can_edge c.args.edges.now c.loop-edge.edge-index c.loop-edge-test.true c.edge-item.is c.loop-edge.invariant.made c.requires.can).1.4

pub link_edge-cell-requires-clause-also : goal.link_edge-cell-requires-clause-also
link_edge-cell-requires-clause-also g c =
    link_apart (can_edge c.args.edges.now c.loop-edge.edge-index c.loop-edge-test.true c.edge-item.is c.loop-edge.invariant.made c.requires.can).1.4 c.edge-item.result.to

pub loop-edge-preserved : goal.loop-edge-preserved
loop-edge-preserved g c =
    let inv = c.loop-edge.invariant in
    let l = c.link_edge-cell.ensures in
    let some = marks_some c.is_none.ensures c.if-is_none.false in
    record {
      made = rw (add-one, edges_more c.args.edges.now c.loop-edge.edge-index c.loop-edge-test.true c.edge-item.is)
          (made_more inv.made c.edge-item.result.marks c.edge-item.result.to _ some l.fresh l.cells l.holds l.next);
      spare = omega arith;
      room = omega arith;
      known = l.known ∙ inv.known;
      counted = omega arith;
    }

pub release-requires : goal.release-requires
release-requires g c =
    let now = can_now c.loop-edge.invariant.made [] (edges_all c.args.edges.now c.loop-edge.edge-index c.loop-edge-test.false) c.requires.can in
    let one = now.4.held.at_left c.args.source (inl refl) in
    omega arith

pub returns-clause-ended : goal.returns-clause-ended
returns-clause-ended g c =
    rw (edges_all c.args.edges.now c.loop-edge.edge-index c.loop-edge-test.false)
    (made_ends c.loop-edge.invariant.made (none_ends _ _ _ _ _ _ _ c.release.ensures.holds c.release.ensures.run))
