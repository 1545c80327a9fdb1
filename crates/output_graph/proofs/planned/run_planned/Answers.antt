use Rattle.std.proofs.Common.{[], length, ap, refl, sym, subst, ◌∙◌, arith, List}
use Rattle.std.proofs.Math.ListN.{drop_of_length-le}
use Rattle.output_graph.specs.declared.planned.Planned.{Planned}
use Rattle.output_graph.specs.Graph.{Graph}
use Rattle.output_graph.specs.Planned.{AreRun, AreWithin, IsRunBy, MayRun, codes_long}
use Rattle.output_graph.specs.Pools.{programs_in}
use Rattle.output_graph.specs.Programs.{Steps}
use Rattle.output_graph.specs.Sound.{graph_of}
use Rattle.output_graph.proofs.PlaceLaws.{place_of}
use Rattle.output_graph.proofs.PlannedLaws.{left_is, planned_at}
use Rattle.output_graph.proofs.planned.run_planned.Goals as goal

pub lists_at-lists-requires-clause-within : goal.lists_at-lists-requires-clause-within
lists_at-lists-requires-clause-within g c =
    (subst (λ ps. AreWithin (length c.args.pool.now.parts.items) ps) (left_is c.args.planned.now c.loop-one.one-index c.loop-one-test.true) c.loop-one.invariant.within).0

pub run_lists-requires : goal.run_lists-requires
run_lists-requires g c =
    let here = left_is c.args.planned.now c.loop-one.one-index c.loop-one-test.true in
    let i = c.loop-one.invariant in
    let first : Graph = graph_of c.loop-one.arena.cells c.loop-one.registers.sources.items [] 0 c.args.was in
    let may = subst (λ ps. MayRun (programs_in c.args.pool.now.parts.items) ps first c.loop-one.steps) here i.may in
    let long = ap (codes_long c.args.pool.now.parts.items) here in
    record {
      lists = c.lists_at-lists.ensures.lists;
      plan = c.lists_at-lists.ensures.plan;
      sound = i.sound;
      every = ap (λ (p : Steps). length p.groups) c.lists_at-lists.ensures.program ∙ may.0;
      place = place_of first c.loop-one.arena.holds i.sound c.is_arena.ensures.live (planned_at c.args.planned.now c.loop-one.one-index).at may.1;
      spare = omega (arith, i.spare, long, c.lists_at-lists.ensures.code);
      room = omega (arith, i.room, long, c.lists_at-lists.ensures.code);
    }

pub loop-one-preserved : goal.loop-one-preserved
loop-one-preserved g c =
    let here = left_is c.args.planned.now c.loop-one.one-index c.loop-one-test.true in
    let i = c.loop-one.invariant in
    let now : Planned = planned_at c.args.planned.now c.loop-one.one-index in
    let programs : List Steps = programs_in c.args.pool.now.parts.items in
    let first : Graph = graph_of c.loop-one.arena.cells c.loop-one.registers.sources.items [] 0 c.args.was in
    let next : Graph = graph_of c.run_lists.new.arena.cells c.run_lists.new.registers.sources.items [] 0 c.args.was in
    let may = subst (λ ps. MayRun programs ps first c.loop-one.steps) here i.may in
    let long = ap (codes_long c.args.pool.now.parts.items) here in
    let one = subst (λ (p : Steps). IsRunBy p now.at first next c.loop-one.steps c.run_lists.new.steps) c.lists_at-lists.ensures.program c.run_lists.ensures.run in
    record {
      within = (subst (λ ps. AreWithin (length c.args.pool.now.parts.items) ps) here i.within).1;
      may = may.2 next c.run_lists.new.steps one;
      sound = c.run_lists.ensures.sound;
      spare = omega (arith, i.spare, long, c.lists_at-lists.ensures.code, c.run_lists.ensures.spare);
      room = omega (arith, i.room, long, c.lists_at-lists.ensures.code, c.run_lists.ensures.room);
      run = λ h after run. i.run h after (subst (λ ps. AreRun programs ps first h c.loop-one.steps after) (sym here) (next, c.run_lists.new.steps, one, run));
    }

pub returns : goal.returns
returns g c =
    let i = c.loop-one.invariant in
    let end : Graph = graph_of c.loop-one.arena.cells c.loop-one.registers.sources.items [] 0 c.args.was in
    let none = drop_of_length-le c.args.planned.now c.loop-one-test.false in
    record { run = i.run end c.loop-one.steps (subst (λ ps. AreRun (programs_in c.args.pool.now.parts.items) ps end end c.loop-one.steps c.loop-one.steps) (sym none) (refl, refl)); sound = i.sound }
