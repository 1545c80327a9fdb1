use Rattle.std.proofs.Common.{◌<◌, ◌∙◌, Some, length, ap, arith, subst, sym}
use Rattle.std.proofs.Math.ListN.{set, length-set}
use Rattle.std.proofs.lemmas.List.{take_all}
use Rattle.std.proofs.lemmas.Option.{slice_get-get_or}
use Rattle.span_core.specs.Lists.{Has}
use Rattle.span_core.proofs.HasLaws.{Has-get_or}
use Rattle.marked_automaton.specs.Reach.{AreTargets}
use Rattle.marked_automaton.specs.Trimmed.{back_edge_of, back_edges_of}
use Rattle.marked_automaton.proofs.Targeted.{targets_more}
use Rattle.settled_states.proofs.Marking.{map_read}
use Rattle.settled_states.proofs.search.sources.Goals as goal
use Rattle.settled_states.proofs.search.sources.Goals.{After-way-item}

within : (c : After-way-item) → c.way-item.result.to < length c.loop-way.sources.items
within c =
    let there = subst (Has c.args.ways.now) (sym c.way-item.is) (Has-get_or c.args.ways.now c.loop-way.way-index c.way-item.result c.loop-way-test.true) in
    omega (arith, c.loop-way.invariant.len, c.requires c.way-item.result there)

pub index_mut-requires : goal.index_mut-requires
index_mut-requires c = let l = within (goal.at.index_mut-requires c).After-way-item in omega (arith, l)

pub loop-way-preserved : goal.loop-way-preserved
loop-way-preserved c =
    let lists = c.loop-way.sources.items in
    let y = c.way-item.result in
    let more = map_read back_edge_of c.args.ways.now c.loop-way.way-index y c.loop-way-test.true c.way-item.is in
    let at = slice_get-get_or lists y.to c.index_mut.result.now (within (goal.at.loop-way-preserved c).After-way-item) ∙ ap Some (sym c.index_mut.ensures.value) in
    record {
      len = length-set lists y.to c.push.new.self ∙ c.loop-way.invariant.len;
      exactly = subst (λ es. AreTargets es (set lists y.to c.push.new.self)) (sym more)
          (targets_more _ (back_edge_of y) lists c.index_mut.result.now c.push.new.self c.loop-way.invariant.exactly at c.in_ok-push.ensures.items);
    }

pub returns-clause-exactly : goal.returns-clause-exactly
returns-clause-exactly c =
    subst (λ ys. AreTargets (back_edges_of ys) c.loop-way.sources.items) (take_all c.loop-way.way-index c.args.ways.now c.loop-way-test.false) c.loop-way.invariant.exactly
