use Rattle.std.proofs.Common.{length, refl, arith}
use Rattle.node_arena.specs.Rows.{rows}
use Rattle.one_pass.proofs.Flagged.{lists_more, lists_none, lists_within}
use Rattle.one_pass.proofs.Settlings.{listed_all, listing_more, listing_none}
use Rattle.one_pass.proofs.settling.list_sources.Goals as goal

pub loop-k-init : goal.loop-k-init
loop-k-init g c = (
  listing_none c.args.graph c.args.settled.now c.args.at c.requires.fresh c.requires.past,
  lists_none c.args.graph c.args.settled.now c.args.steps.now,
)

pub loop-k-preserved : goal.loop-k-preserved
loop-k-preserved g c =
    let e = c.in_ok-end_source.ensures in (
      listing_more c.args.graph c.args.settled.now c.args.at c.requires.fresh c.requires.past c.loop-k.k c.loop-k.graph c.end_source.new.graph _ (omega arith) refl
          _ _ c.loop-k.invariant.0 e.stepped e.cost,
      lists_more c.args.graph c.args.settled.now c.loop-k.k c.loop-k.graph c.end_source.new.graph _ _ _ _ refl c.loop-k.invariant.1 e.cost,
    )

pub returns-in_err-end_source-clause-steps : goal.returns-in_err-end_source-clause-steps
returns-in_err-end_source-clause-steps g c =
    let within = lists_within c.args.graph c.args.settled.now c.loop-k.k (length c.args.settled.now) c.loop-k.graph _ _ c.loop-k.invariant.1 (omega (arith, c.requires.many)) in
    omega (arith, within, c.requires.many, c.in_err-end_source.ensures.uncounted)

pub returns-clause-listed : goal.returns-clause-listed
returns-clause-listed g c =
    listed_all c.args.graph c.args.settled.now c.args.at c.requires.fresh c.requires.past c.loop-k.k c.loop-k.graph c.loop-k.invariant.0 (omega arith)
    (rows c.turn.result.store c.turn.result.first) c.turn.ensures.listed.exact
