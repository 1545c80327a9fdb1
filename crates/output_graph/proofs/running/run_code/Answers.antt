use Rattle.std.proofs.Common.{[], length, take, ap, ◌∙◌, arith}
use Rattle.output_graph.specs.Forward.{Layer}
use Rattle.output_graph.specs.Graph.{sets_of}
use Rattle.output_graph.specs.Sound.{graph_of}
use Rattle.output_graph.proofs.CodeLaws.{come_end, create_also, create_from, create_next, create_ready, create_there, first_all, free_held, free_next, free_within, own_sets, shift_next, shift_within, with_longer, with_names}
use Rattle.output_graph.proofs.EdgeLaws.{length_released}
use Rattle.output_graph.proofs.running.run_code.Goals as goal
use Rattle.output_graph.proofs.running.run_code.Goals.{in-Create, in-Free, in-Shift}

pub loop-instruction-init : goal.loop-instruction-init
loop-instruction-init g c = record {
  running = record {
    symbols = _;
    left = _;
    made = [];
    are = first_all c.args.registers.now.sources.items _ c.requires.every;
    does = c.requires.lists.code;
    leads = c.requires.leads;
  };
  names = own_sets c.args.registers.now.sources.items;
  longer = omega arith;
  spare = omega arith;
  room = omega arith;
  counted = omega arith;
}

pub cell-from-requires : goal.cell-from-requires
cell-from-requires g c = create_from c.loop-instruction.invariant.running c.loop-instruction-test.true c.instruction-item.is c.in-Create.is

pub cell_of-also-requires : goal.cell_of-also-requires
cell_of-also-requires g c = create_also c.loop-instruction.invariant.running c.loop-instruction-test.true c.instruction-item.is c.in-Create.is

pub link-cell-requires-clause-from_there : goal.link-cell-requires-clause-from_there
link-cell-requires-clause-from_there g c =
    create_there c.loop-instruction.invariant.running c.loop-instruction-test.true c.instruction-item.is c.in-Create.is c.cell-from.ensures c.cell_of-also.ensures

pub link-cell-requires-clause-also_ready : goal.link-cell-requires-clause-also_ready
link-cell-requires-clause-also_ready g c =
    create_ready c.loop-instruction.invariant.running c.loop-instruction-test.true c.instruction-item.is c.in-Create.is c.cell-from.ensures c.cell_of-also.ensures

pub cell-requires : goal.cell-requires
cell-requires g c = free_within c.loop-instruction.invariant.running c.loop-instruction-test.true c.instruction-item.is c.in-Free.is

pub release-requires : goal.release-requires
release-requires g c = free_held c.loop-instruction.invariant.running c.loop-instruction-test.true c.instruction-item.is c.in-Free.is c.cell.ensures

pub cell-cell-requires : goal.cell-cell-requires
cell-cell-requires g c = shift_within c.loop-instruction.invariant.running c.loop-instruction-test.true c.instruction-item.is c.in-Shift.is

pub loop-instruction-preserved : goal.loop-instruction-preserved
loop-instruction-preserved g c =
    let i = c.loop-instruction.invariant in
    let test = c.loop-instruction-test.true in
    let item = c.instruction-item.is in
    let here : Layer = c.loop-instruction.registers.sources.items in
    elim c.match-instruction.branch [
      | in-Create w ↦
          let l = w.link-cell.ensures in
          let next = create_next i.running test item w.in-Create.is w.cell-from.ensures w.cell_of-also.ensures _ l.fresh w.put.ensures.sources l.cells l.holds l.steps in
          rw (w.registers-is, w.arena-is, w.steps-is) (record {
            running = next;
            names = ap (λ (x : Layer). take (length c.args.registers.now.sources.items) (sets_of x)) w.put.ensures.sources ∙
                (with_names here w.in-Create.making.to w.link-cell.result _ i.longer ∙ i.names);
            longer = omega (arith, i.longer, ap length w.put.ensures.sources, with_longer here w.in-Create.making.to w.link-cell.result);
            spare = omega (arith, i.spare, l.spare);
            room = omega (arith, i.room, w.put.ensures.room);
            counted = omega (arith, i.counted, l.steps);
          })
      | in-Free w ↦
          let l = w.release.ensures in
          let next = free_next i.running test item w.in-Free.is w.cell.ensures l.holds l.run l.counted l.steps in
          rw (w.registers-is, w.arena-is, w.steps-is) (record {
            running = next;
            names = i.names;
            longer = i.longer;
            spare = omega (arith, i.spare, l.spare, length_released _ l.run);
            room = omega (arith, i.room);
            counted = omega (arith, i.counted, l.counted);
          })
      | in-Shift w ↦
          let next = shift_next i.running test item w.in-Shift.is w.cell-cell.ensures w.put-in-Shift.ensures.sources in
          rw (w.registers-is, w.arena-is, w.steps-is) (record {
            running = next;
            names = ap (λ (x : Layer). take (length c.args.registers.now.sources.items) (sets_of x)) w.put-in-Shift.ensures.sources ∙
                (with_names here w.in-Shift.shifting.to w.cell-cell.result _ i.longer ∙ i.names);
            longer = omega (arith, i.longer, ap length w.put-in-Shift.ensures.sources, with_longer here w.in-Shift.shifting.to w.cell-cell.result);
            spare = omega (arith, i.spare);
            room = omega (arith, i.room, w.put-in-Shift.ensures.room);
            counted = i.counted;
          })
    ]

pub returns-clause-run : goal.returns-clause-run
returns-clause-run g c =
    come_end (graph_of c.args.arena.now.cells c.args.registers.now.sources.items [] 0 c.args.was) c.args.at c.args.lists.plan.now.value c.args.steps.now
    c.loop-instruction.invariant.running (omega (arith, c.loop-instruction-test.false)) (omega (arith, c.count.ensures, c.requires.lists.sources))
