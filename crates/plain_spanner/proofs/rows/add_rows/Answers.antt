use Rattle.span_core.specs.Lists.{Has}
use Rattle.plain_spanner.specs.Tables.{IsRowOfFits}
use Rattle.plain_spanner.proofs.TellsLaws.{from_none, from_more, from_all}
use Rattle.plain_spanner.proofs.rows.add_rows.Goals as goal

pub loop-branch-init : goal.loop-branch-init
loop-branch-init c = from_none (IsRowOfFits c.args.names.now c.args.to_end c.args.end) (Has c.args.rows.now.items)

pub loop-branch-preserved : goal.loop-branch-preserved
loop-branch-preserved c =
    from_more (IsRowOfFits c.args.names.now c.args.to_end c.args.end) (Has c.args.rows.now.items) (Has c.loop-branch.rows.items)
    (Has c.add_row.new.rows.items) c.args.found.now c.loop-branch.branch-index c.branch-item.result c.branch-item.result
    c.loop-branch-test.true c.branch-item.is c.loop-branch.invariant c.in_ok-add_row.ensures

pub returns : goal.returns
returns c =
    from_all (IsRowOfFits c.args.names.now c.args.to_end c.args.end) (Has c.args.rows.now.items) (Has c.loop-branch.rows.items) c.args.found.now
    c.loop-branch.branch-index c.loop-branch.auto.branch-index-end c.loop-branch-test.false c.loop-branch.invariant
