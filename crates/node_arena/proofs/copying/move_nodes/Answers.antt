use Rattle.std.proofs.Common.{◌+◌, ◌-◌, IsSome, ap, subst, sym, ◌∙◌, arith}
use Rattle.std.specs.FinMap as map
use Rattle.node_arena.specs.Copying.{copy_in}
use Rattle.node_arena.specs.Nodes.{Nodes}
use Rattle.node_arena.proofs.CopyLoops.{moving_begins, moving_node, moving_slot, moving_next, moving_ends}
use Rattle.node_arena.proofs.copying.move_nodes.Goals as goal

pub loop-init : goal.loop-init
loop-init g c = record {
  moving = moving_begins _ _ (copy_in c.args.numbers.now) _ c.args.live (c.args.live - 0) _ c.requires.kept c.requires.slots (omega arith);
  steps = omega arith;
}

pub get-requires : goal.get-requires
get-requires g c =
    let t = c.loop-test.true in
    let nodes : Nodes = c.args.nodes.now.live in
    subst (λ k. IsSome (map.get nodes k)) (sym c.of.ensures)
    (moving_node _ _ _ _ c.loop.at (c.args.live - c.loop.counter) c.loop.invariant.moving (omega arith))

pub set-requires : goal.set-requires
set-requires g c =
    let t = c.loop-test.true in
    moving_slot _ _ (copy_in c.args.numbers.now) _ c.loop.at (c.args.live - c.loop.counter) c.of-in-loop.result c.loop.invariant.moving (omega arith) (c.of-in-loop.ensures ∙ c.copied.ensures)

pub older_than-at-requires : goal.older_than-at-requires
older_than-at-requires g c =
    let t = c.loop-test.true in
    moving_node _ _ _ _ c.loop.at (c.args.live - c.loop.counter) c.loop.invariant.moving (omega arith)

pub loop-preserved : goal.loop-preserved
loop-preserved g c =
    let t = c.loop-test.true in
    let nodes : Nodes = c.args.nodes.now.live in
    let s = c.loop.invariant.steps in
    let tick = c.tick.ensures in
    record {
      moving = moving_next _ _ _ (copy_in c.args.numbers.now) _ c.loop.at (c.args.live - c.loop.counter) c.of-in-loop.result c.get.result c.moved-node.result c.loop.invariant.moving (omega arith)
          (ap (map.get nodes) (sym c.of.ensures) ∙ c.get.ensures) (c.of-in-loop.ensures ∙ c.copied.ensures) c.moved-node.ensures c.set.ensures.live c.older_than-at.result c.older_than-at.ensures
          (c.args.live - (c.loop.counter + 1)) (omega arith);
      steps = omega arith;
    }

pub returns-clause-slots : goal.returns-clause-slots
returns-clause-slots g c = c.loop.invariant.moving.slots

pub returns-clause-moved : goal.returns-clause-moved
returns-clause-moved g c = let t = c.loop-test.false in moving_ends _ _ _ _ c.loop.at (c.args.live - c.loop.counter) c.loop.invariant.moving (omega arith)

pub returns-clause-steps : goal.returns-clause-steps
returns-clause-steps g c = let t = c.loop-test.false in let s = c.loop.invariant.steps in let e = c.loop.auto.counter-end in omega arith
