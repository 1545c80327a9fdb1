use Rattle.std.proofs.Common.{length, ap}
use Rattle.byte_runs.proofs.ChainLaws.{text_is, text_more, text_none}
use Rattle.byte_runs.proofs.chain.text_at.Goals as goal

pub loop-k-init : goal.loop-k-init
loop-k-init c = text_none c.args.sets.now c.args.offset c.new-text.result.items (ap length c.new-text.ensures.items)

pub loop-k-preserved : goal.loop-k-preserved
loop-k-preserved c =
    text_more c.args.sets.now c.args.offset c.loop-k.text.items c.push.new.self.items c.loop-k.k c.in-Some.byte c.index-sets-k.result c.loop-k.invariant c.loop-k-test.true
    c.index-sets-k.is c.in-Some.ensures c.in_ok-push.ensures.items

pub returns-in-None : goal.returns-in-None
returns-in-None c = text_is c.args.sets.now c.args.offset c.loop-k.text.items c.loop-k.k c.loop-k.invariant

pub returns : goal.returns
returns c = text_is c.args.sets.now c.args.offset c.loop-k.text.items c.loop-k.k c.loop-k.invariant
