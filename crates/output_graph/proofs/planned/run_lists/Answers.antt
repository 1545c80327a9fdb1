use Rattle.std.proofs.Common.{◌≡◌, [], length, sym, arith, ◌∙◌}
use Rattle.output_graph.specs.Graph.{Graph}
use Rattle.output_graph.specs.Programs.{edges_in}
use Rattle.output_graph.specs.Sound.{graph_of}
use Rattle.output_graph.proofs.ComeLaws.{come_distinct, come_long, come_names, come_next, come_sound, whole}
use Rattle.output_graph.proofs.GoingLaws.{plan_leads}
use Rattle.output_graph.proofs.GraphLaws.{sources_apart}
use Rattle.output_graph.proofs.ProgramLaws.{length_cut}
use Rattle.output_graph.proofs.planned.run_lists.Goals as goal

pub run_code-requires-clause-leads : goal.run_code-requires-clause-leads
run_code-requires-clause-leads g c =
    plan_leads c.args.lists.plan.now.value c.args.registers.now.sources.items c.args.at c.args.was c.args.steps.now c.args.arena.now.cells
    c.args.arena.now.holds c.requires.plan c.requires.sound c.requires.place
    (sym (length_cut _ _) ∙ c.requires.every)

pub run_code-requires-clause-every : goal.run_code-requires-clause-every
run_code-requires-clause-every g c = sym (length_cut _ _) ∙ c.requires.every

pub settle-requires : goal.settle-requires
settle-requires g c = rw c.requires.lists.targets (come_long _ _ _ _ _ _ _ _ c.run_code.ensures.run)

pub returns-clause-sound : goal.returns-clause-sound
returns-clause-sound g c =
    let count : length c.args.lists.plan.now.value.counts.items ≡ length c.args.registers.now.sources.items = sym (length_cut _ _) ∙ c.requires.every in
    let same = rw c.requires.lists.targets at c.settle.ensures.cells in
    let long = rw c.requires.lists.targets at c.settle.ensures.every in
    let names = rw c.requires.lists.targets at c.settle.ensures.names in
    let before : c.len-before.result ≡ length c.args.registers.now.sources.items = c.len-before.ensures in
    come_sound _ _ _ _ _ _ _ _ c.run_code.ensures.run count c.settle.new.self.sources.items same long c.args.was
    (come_names _ _ _ _ _ _ _ _ c.run_code.ensures.run count c.settle.new.self.sources.items c.len-before.result names (rw before c.run_code.ensures.names) c.requires.sound.sets)

pub returns-clause-run : goal.returns-clause-run
returns-clause-run g c =
    let count : length c.args.lists.plan.now.value.counts.items ≡ length c.args.registers.now.sources.items = sym (length_cut _ _) ∙ c.requires.every in
    let same = rw c.requires.lists.targets at c.settle.ensures.cells in
    let long = rw c.requires.lists.targets at c.settle.ensures.every in
    let come = c.run_code.ensures.run in
    let all : Graph = whole _ _ _ _ _ _ _ _ come count in
    let next = come_next _ _ _ _ _ _ _ _ come count c.settle.new.self.sources.items same long c.args.was in
    let counted = length_cut c.args.lists.plan.now.value.counts.items (edges_in c.args.lists.plan.now.value.moves.items) in
    record {
      run = (all, come.run.stepped, next);
      distinct = come_distinct _ _ _ _ _ _ _ _ come count;
      long = long;
      apart = sources_apart (graph_of c.run_code.new.arena.cells c.settle.new.self.sources.items [] 0 c.args.was) c.run_code.new.arena.holds (returns-clause-sound g c);
      counted = omega (arith, c.run_code.ensures.counted, counted, c.requires.lists.sources);
    }
