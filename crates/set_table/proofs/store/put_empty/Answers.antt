use Rattle.std.proofs.Common.{arith}
use Rattle.set_table.proofs.StayLaws.{empty_more, empty_none}
use Rattle.set_table.proofs.store.put_empty.Goals as goal

pub loop-init : goal.loop-init
loop-init c = empty_none c.args.stays.now.items c.len-counter.result (omega (arith, c.len-counter.ensures, c.args.stays.now.ok))

pub loop-preserved : goal.loop-preserved
loop-preserved c = empty_more c.args.stays.now.items c.loop.stays.items c.push.new.self.items c.loop.counter c.empty.result c.loop.invariant c.empty.ensures c.in_ok-push.ensures.items
