use Rattle.std.proofs.Common.{◌+◌, ◌<◌, List, length, take, inr, subst, sym, arith, ◌∙◌}
use Rattle.std.proofs.lemmas.Bool.{false≢true}
use Rattle.std.proofs.lemmas.List.{take_all}
use Rattle.marked_automaton.specs.Inside.{flagged}
use Rattle.marked_automaton.specs.Reach.{Reaches}
use Rattle.marked_automaton.specs.Trimmed.{edges_in}
use Rattle.marked_automaton.specs.declared.way.Way.{Way}
use Rattle.marked_automaton.proofs.Growing.{IsSwept, Sweeps, grows_none, read, sweep_on, swept_more}
use Rattle.marked_automaton.proofs.Targeted.{edge_there, edges_more}
use Rattle.marked_automaton.proofs.reach.Search.sweep.Goals as goal
use Rattle.marked_automaton.proofs.reach.Search.sweep.Goals.{then-index+in_ok-find, else-index}

pub loop-way-init : goal.loop-way-init
loop-way-init c = record {
  grows = grows_none (Reaches (edges_in c.args.direction c.args.ways.now) (flagged 0 c.args.self.now.found.items)) c.args.self.now.found.items c.args.self.now.waiting.items;
  swept = λ e h. absurd h;
}

pub index-requires : goal.index-requires
index-requires c =
    let there = edge_there c.args.direction c.args.ways.now c.loop-way.way-index c.way-item.result _ c.edge-edge.result c.loop-way-test.true c.way-item.is c.edge-edge.ensures in
    omega (arith, c.loop-way.invariant.grows.len, (c.requires c.edge-edge.result there).0)

pub find-requires : goal.find-requires
find-requires c =
    let there = edge_there c.args.direction c.args.ways.now c.loop-way.way-index c.way-item.result _ c.edge-edge.result c.loop-way-test.true c.way-item.is c.edge-edge.ensures in
    omega (arith, c.loop-way.invariant.grows.len, (c.requires c.edge-edge.result there).1)

pub loop-way-preserved : goal.loop-way-preserved
loop-way-preserved c =
    let ways = c.args.ways.now in
    let k = c.loop-way.way-index in
    let edge = c.edge-edge.result in
    let f0 = c.args.self.now.found.items in
    let q0 = c.args.self.now.waiting.items in
    let f1 = c.loop-way.self.found.items in
    let q1 = c.loop-way.self.waiting.items in
    let before = edges_in c.args.direction (take k ways) in
    let g = c.loop-way.invariant.grows in
    let there = edge_there c.args.direction ways k c.way-item.result _ edge c.loop-way-test.true c.way-item.is c.edge-edge.ensures in
    let more = edges_more c.args.direction ways k c.way-item.result _ edge c.loop-way-test.true c.way-item.is c.edge-edge.ensures in
    let within : edge.from < length f1 = omega (arith, g.len, (c.requires edge there).0) in
    let flag = read f1 edge.from c.index.result.now within c.index.ensures in
    elim c.if-index.branch as (λ _. Sweeps c.args.direction ways (k + 1) c.args.self.now c.if-index.self) [
      | then-index+in_ok-find w ↦
          let one = w.in_ok-find.ensures.grows in
          let f2 = w.find.new.self.found.items in
          subst (Sweeps c.args.direction ways (k + 1) c.args.self.now) (sym w.self-is) (record {
            grows = sweep_on (edges_in c.args.direction ways) f0 f1 f2 q0 q1 w.find.new.self.waiting.items edge there g (flag ∙ w.if-index.true) one;
            swept = subst (λ es. IsSwept es f0 f2) (sym more) (swept_more before edge f0 f1 f2 c.loop-way.invariant.swept one.kept (λ from. w.in_ok-find.ensures.found));
          })
      | else-index w ↦
          subst (Sweeps c.args.direction ways (k + 1) c.args.self.now) (sym w.self-is) (record {
            grows = g;
            swept = subst (λ es. IsSwept es f0 f1) (sym more)
                (swept_more before edge f0 f1 f1 c.loop-way.invariant.swept (λ p h. h) (λ from. absurd (false≢true (sym (flag ∙ w.if-index.false) ∙ g.kept edge.from from))));
          })
    ]

pub returns-clause-swept : goal.returns-clause-swept
returns-clause-swept c =
    inr (subst (λ (ys : List Way). IsSwept (edges_in c.args.direction ys) c.args.self.now.found.items c.loop-way.self.found.items)
    (take_all c.loop-way.way-index c.args.ways.now c.loop-way-test.false) c.loop-way.invariant.swept)
