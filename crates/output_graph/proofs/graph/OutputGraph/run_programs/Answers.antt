use Rattle.std.proofs.Common.{◌≡◌, [], arith}
use Rattle.output_graph.proofs.GoingLaws.{layer_begun}
use Rattle.output_graph.proofs.graph.OutputGraph.run_programs.Goals as goal

pub room_for-requires-clause-within : goal.room_for-requires-clause-within
room_for-requires-clause-within g c = rw c.pool-pool.ensures.many c.requires.within

pub run_planned-requires : goal.run_planned-requires
run_planned-requires g c =
    let begun : c.self.inside.stepped ≡ 0 = rw (← c.self.view_is) at c.requires.begun in
    let none : c.self.inside.next.pairs ≡ [] = c.self.invariant.fresh begun in
    let may = rw (none, begun) at (rw (← c.self.view_is) at c.requires.may) in
    record {
      pooled = c.pool-pool.ensures.pooled;
      within = rw c.pool-pool.ensures.many c.requires.within;
      may = rw (c.pool-pool.ensures.programs, c.reserve.ensures.cells, c.reserve-2.ensures.sources) may;
      sound =
          rw (c.reserve.ensures.cells, c.reserve.ensures.holds, c.reserve-2.ensures.sources)
          (layer_begun c.self.inside.arena.cells c.self.inside.registers.sources.items c.self.inside.next.pairs c.self.inside.stepped c.self.inside.at
          c.self.inside.arena.holds c.self.invariant begun);
      spare = omega (arith, c.in_ok-room.ensures, c.in_ok-reserve.ensures.room);
      room = omega (arith, c.in_ok-room.ensures, c.in_ok-reserve-2.ensures.room);
    }

pub returns-clause-run : goal.returns-clause-run
returns-clause-run g c =
    let begun : c.self.inside.stepped ≡ 0 = rw (← c.self.view_is) at c.requires.begun in
    let none : c.self.inside.next.pairs ≡ [] = c.self.invariant.fresh begun in
    rw (← c.self.view_is, none, begun) (rw (c.pool-pool.ensures.programs, c.reserve.ensures.cells, c.reserve-2.ensures.sources) at c.run_planned.ensures.run)

pub invariant_of-self-2 : goal.invariant_of-self-2
invariant_of-self-2 g c =
    let begun : c.self.inside.stepped ≡ 0 = rw (← c.self.view_is) at c.requires.begun in
    let none : c.self.inside.next.pairs ≡ [] = c.self.invariant.fresh begun in
    rw (none, begun) c.run_planned.ensures.sound
