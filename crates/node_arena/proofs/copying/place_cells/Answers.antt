use Rattle.std.proofs.Common.{◌+◌, ◌-◌, IsSome, ap, subst, sym, ◌∙◌, arith}
use Rattle.std.specs.FinMap as map
use Rattle.node_arena.specs.Nodes.{Nodes}
use Rattle.node_arena.proofs.CopyLoops.{none_put, placing_begins, placing_cell, placing_node, placing_next}
use Rattle.node_arena.proofs.copying.place_cells.Goals as goal

pub loop-init : goal.loop-init
loop-init g c = record {
  placing = placing_begins _ _ _ _ c.args.live (c.args.live - 0) _ c.requires.kept c.requires.empty (omega arith);
  covered = c.requires.covered;
  none = c.requires.none;
  room = let r = c.requires.room in omega arith;
  steps = omega arith;
}

pub get-requires : goal.get-requires
get-requires g c =
    let t = c.loop-test.true in
    let nodes : Nodes = c.args.nodes.now.live in
    subst (λ k. IsSome (map.get nodes k)) (sym c.of.ensures)
    (placing_node _ _ _ _ c.loop.at (c.args.live - c.loop.counter) c.loop.invariant.placing (omega arith))

pub loop-preserved : goal.loop-preserved
loop-preserved g c =
    let t = c.loop-test.true in
    let nodes : Nodes = c.args.nodes.now.live in
    let r = c.loop.invariant.room in
    let s = c.loop.invariant.steps in
    let tick = c.tick.ensures in
    let spare = c.put.ensures.spare in
    let noted = c.in_ok-put.ensures in
    let h = placing_cell _ _ _ _ c.loop.at (c.args.live - c.loop.counter) c.loop.invariant.placing (omega arith) in
    record {
      placing = placing_next _ _ _ _ _ _ c.loop.at (c.args.live - c.loop.counter) c.put.result c.number-copy.result c.get.result c.get.result c.loop.invariant.placing (omega arith)
          (ap (map.get nodes) (sym c.of.ensures) ∙ c.get.ensures) c.put.ensures.free c.put.ensures.number c.put.ensures.live c.number-copy.ensures noted c.older_than-at.result
          c.older_than-at.ensures (c.args.live - (c.loop.counter + 1)) (omega arith);
      covered = λ k is. noted.covers k (c.loop.invariant.covered k is);
      none = none_put _ _ _ c.loop.at c.number-copy.result c.requires.kept.small h noted c.loop.invariant.none;
      room = omega arith;
      steps = omega arith;
    }
