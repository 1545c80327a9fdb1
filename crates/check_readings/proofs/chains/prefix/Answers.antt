use Rattle.node_arena.proofs.Holds.{held_apart, held_still, held_now}
use Rattle.check_readings.proofs.HeldCells.{a3, b4, c5, last6}
use Rattle.check_readings.proofs.chains.prefix.Goals as goal

pub next_of-requires : goal.next_of-requires
next_of-requires g c = held_now _ _ c.root-root.result c.root-root.ensures.holds

pub next_of-requires-2 : goal.next_of-requires-2
next_of-requires-2 g c = held_now _ _ c.in-Some.shared c.in-Some.ensures.holds

pub next_of-requires-3 : goal.next_of-requires-3
next_of-requires-3 g c =
    let now = held_now _ _ c.in-Some.shared c.in-Some.ensures.holds in
    held_still _ _ c.in-Some-next_of.one 1 c.in-Some.shared c.in-Some-next_of.ensures.holds (held_apart _ c.in-Some-next_of.one c.in-Some.shared c.in-Some-next_of.ensures.fresh now) now

pub release-requires : goal.release-requires
release-requires g c =
    a3 _ _ _ _ c.root-root.result c.in-Some.shared c.in-Some-next_of.one c.in-Some-next_of-2.two (held_now _ _ c.root-root.result c.root-root.ensures.holds)
    c.in-Some.ensures.holds c.in-Some.ensures.fresh c.in-Some-next_of.ensures.holds c.in-Some-next_of.ensures.fresh c.in-Some-next_of-2.ensures.holds c.in-Some-next_of-2.ensures.fresh

pub release-requires-2 : goal.release-requires-2
release-requires-2 g c =
    b4 _ _ _ _ c.root-root.result c.in-Some.shared c.in-Some-next_of.one c.in-Some-next_of-2.two (held_now _ _ c.root-root.result c.root-root.ensures.holds)
    c.in-Some.ensures.holds c.in-Some.ensures.fresh c.in-Some-next_of.ensures.holds c.in-Some-next_of.ensures.fresh c.in-Some-next_of-2.ensures.holds c.in-Some-next_of-2.ensures.fresh
    _ _ c.release.ensures.holds

pub release-requires-3 : goal.release-requires-3
release-requires-3 g c =
    c5 _ _ _ _ c.root-root.result c.in-Some.shared c.in-Some-next_of.one c.in-Some-next_of-2.two (held_now _ _ c.root-root.result c.root-root.ensures.holds)
    c.in-Some.ensures.holds c.in-Some.ensures.fresh c.in-Some-next_of.ensures.holds c.in-Some-next_of.ensures.fresh c.in-Some-next_of-2.ensures.holds c.in-Some-next_of-2.ensures.fresh
    _ _ c.release.ensures.holds _ _ c.release-2.ensures.holds

pub release-requires-4 : goal.release-requires-4
release-requires-4 g c =
    last6 _ _ _ _ c.root-root.result c.in-Some.shared c.in-Some-next_of.one c.in-Some-next_of-2.two (held_now _ _ c.root-root.result c.root-root.ensures.holds)
    c.in-Some.ensures.holds c.in-Some.ensures.fresh c.in-Some-next_of.ensures.holds c.in-Some-next_of.ensures.fresh c.in-Some-next_of-2.ensures.holds c.in-Some-next_of-2.ensures.fresh
    _ _ c.release.ensures.holds _ _ c.release-2.ensures.holds _ _ c.release-3.ensures.holds
