use Rattle.way_exits.proofs.AheadLaws.{level_all, level_more}
use Rattle.way_exits.proofs.chains.level_of.Goals as goal

pub loop-way-preserved : goal.loop-way-preserved
loop-way-preserved c =
    level_more c.args.leaving c.args.from.now c.args.ways.now c.loop-way.way-index c.way-item.result c.loop-way.level c.add_way.new.level c.loop-way-test.true c.way-item.is
    c.loop-way.invariant (c.add_way.ensures c.if-not-add_way.false)

pub returns : goal.returns
returns c = level_all c.args.leaving c.args.from.now c.args.ways.now c.loop-way.way-index c.loop-way.level c.loop-way-test.false c.loop-way.invariant
