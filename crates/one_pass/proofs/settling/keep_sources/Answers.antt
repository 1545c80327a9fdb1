use Rattle.std.proofs.Common.{length, refl, arith}
use Rattle.one_pass.proofs.Flagged.{keeps_more, keeps_none, keeps_within}
use Rattle.one_pass.proofs.Settlings.{kept_all, keeping_more, keeping_none}
use Rattle.one_pass.proofs.settling.keep_sources.Goals as goal

pub loop-k-init : goal.loop-k-init
loop-k-init g c = (
  keeping_none c.args.graph.now c.args.settled.now c.args.at c.requires.fresh c.requires.past,
  keeps_none c.args.graph.now c.args.settled.now c.args.steps.now,
)

pub loop-k-preserved : goal.loop-k-preserved
loop-k-preserved g c =
    let e = c.in_ok-keep_source.ensures in (
      keeping_more c.args.graph.now c.args.settled.now c.args.at c.requires.fresh c.requires.past c.loop-k.k c.loop-k.graph c.keep_source.new.graph _ (omega arith) refl
          _ _ c.set_at-set.result c.is_graph.ensures.sources.distinct c.loop-k.invariant.0 c.set_at-set.ensures e.stepped e.cost,
      keeps_more c.args.graph.now c.args.settled.now c.loop-k.k c.set_at-set.result c.loop-k.graph c.keep_source.new.graph _ _ _ _ refl c.loop-k.invariant.1 e.cost,
    )

pub returns-in_err-keep_source-clause-steps : goal.returns-in_err-keep_source-clause-steps
returns-in_err-keep_source-clause-steps g c =
    let within = keeps_within c.args.graph.now c.args.settled.now c.loop-k.k (length c.args.settled.now) c.loop-k.graph _ _ c.loop-k.invariant.1 (omega (arith, c.requires.many)) in
    omega (arith, within, c.requires.many, c.in_err-keep_source.ensures.uncounted)

pub returns-clause-kept : goal.returns-clause-kept
returns-clause-kept g c =
    let e = c.next_layer.ensures in
    kept_all c.args.graph.now c.args.settled.now c.args.at c.requires.fresh c.requires.past c.loop-k.k c.loop-k.graph c.next_layer.new.self c.loop-k.invariant.0 (omega arith)
    e.sources e.cells e.layer e.stepped e.next c.is_graph-2.ensures.sources
