use Rattle.std.proofs.Common.{subst}
use Rattle.std.proofs.lemmas.List.{take_all}
use Rattle.set_table.specs.Runs.{Bounds}
use Rattle.set_table.proofs.WayRunLaws.{bounds_more}
use Rattle.set_table.proofs.way_runs.bytes_of.Goals as goal

pub loop-way-init : goal.loop-way-init
loop-way-init c = λ y b m. absurd m

pub loop-way-preserved : goal.loop-way-preserved
loop-way-preserved c =
    bounds_more c.args.ways.now c.loop-way.way-index c.way-item.result c.loop-way.bytes c.union-bytes.result c.loop-way-test.true c.way-item.is c.union-bytes.ensures c.loop-way.invariant

pub returns : goal.returns
returns c = subst (Bounds c.loop-way.bytes) (take_all c.loop-way.way-index c.args.ways.now c.loop-way-test.false) c.loop-way.invariant
