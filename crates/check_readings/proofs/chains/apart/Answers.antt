use Rattle.std.proofs.Common.{sym}
use Rattle.node_arena.proofs.Holds.{held_apart, held_still, held_now}
use Rattle.check_readings.proofs.chains.apart.Goals as goal

pub loop-init : goal.loop-init
loop-init g c = held_now _ _ c.root-cell.result c.root-cell.ensures.holds

pub next_of-requires : goal.next_of-requires
next_of-requires g c = c.loop.invariant

pub release-requires : goal.release-requires
release-requires g c =
    held_still _ _ c.in-Some.next 1 c.loop.cell c.in-Some.ensures.holds (held_apart _ c.in-Some.next c.loop.cell c.in-Some.ensures.fresh c.loop.invariant) c.loop.invariant

pub loop-preserved : goal.loop-preserved
loop-preserved g c =
    held_still _ _ c.loop.cell _ c.in-Some.next c.release.ensures.holds
    (λ e. held_apart _ c.in-Some.next c.loop.cell c.in-Some.ensures.fresh c.loop.invariant (sym e)) (held_now _ _ c.in-Some.next c.in-Some.ensures.holds)

pub copy_with-requires : goal.copy_with-requires
copy_with-requires g c = c.loop.invariant
