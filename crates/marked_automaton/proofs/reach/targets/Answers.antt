use Rattle.std.proofs.Common.{◌<◌, ◌∙◌, Some, length, ap, arith, subst, sym}
use Rattle.std.proofs.Math.ListN.{set, length-set}
use Rattle.std.proofs.lemmas.List.{take_all}
use Rattle.std.proofs.lemmas.Option.{slice_get-get_or}
use Rattle.marked_automaton.specs.Reach.{AreTargets}
use Rattle.marked_automaton.specs.Trimmed.{edges_in}
use Rattle.marked_automaton.proofs.Targeted.{edge_there, edges_more, targets_more}
use Rattle.marked_automaton.proofs.reach.targets.Goals as goal
use Rattle.marked_automaton.proofs.reach.targets.Goals.{After-edge-edge}

within : (c : After-edge-edge) → c.edge-edge.result.from < length c.loop-way.targets.items
within c =
    let there = edge_there c.args.direction c.args.ways.now c.loop-way.way-index c.way-item.result _ c.edge-edge.result c.loop-way-test.true c.way-item.is c.edge-edge.ensures in
    omega (arith, c.loop-way.invariant.len, c.requires c.edge-edge.result there)

pub index_mut-requires : goal.index_mut-requires
index_mut-requires c = let l = within (goal.at.index_mut-requires c).After-edge-edge in omega (arith, l)

pub loop-way-preserved : goal.loop-way-preserved
loop-way-preserved c =
    let lists = c.loop-way.targets.items in
    let edge = c.edge-edge.result in
    let more = edges_more c.args.direction c.args.ways.now c.loop-way.way-index c.way-item.result _ edge c.loop-way-test.true c.way-item.is c.edge-edge.ensures in
    let at = slice_get-get_or lists edge.from c.index_mut.result.now (within (goal.at.loop-way-preserved c).After-edge-edge) ∙ ap Some (sym c.index_mut.ensures.value) in
    record {
      len = length-set lists edge.from c.push.new.self ∙ c.loop-way.invariant.len;
      exactly = subst (λ es. AreTargets es (set lists edge.from c.push.new.self)) (sym more)
          (targets_more _ edge lists c.index_mut.result.now c.push.new.self c.loop-way.invariant.exactly at c.in_ok-push.ensures.items);
    }

pub returns-clause-exactly : goal.returns-clause-exactly
returns-clause-exactly c =
    subst (λ ys. AreTargets (edges_in c.args.direction ys) c.loop-way.targets.items) (take_all c.loop-way.way-index c.args.ways.now c.loop-way-test.false) c.loop-way.invariant.exactly
