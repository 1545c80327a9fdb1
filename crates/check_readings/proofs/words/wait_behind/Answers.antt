use Rattle.std.proofs.Common.{sym, subst}
use Rattle.node_arena.specs.Rows.{named_row}
use Rattle.output_graph.proofs.RowLaws.{rows_at}
use Rattle.check_readings.specs.Waiting.{AreThere}
use Rattle.check_readings.proofs.WaitingLaws.{one_more}
use Rattle.check_readings.proofs.words.wait_behind.Goals as goal

pub returns : goal.returns
returns g c =
    let store = c.args.lists.now.store in
    let (rows, child, next, some) = rows_at store c.args.row (named_row c.args.row c.at-cell.result) c.are_lists.ensures.made c.at-cell.ensures.row in
    subst (AreThere store) (sym c.in_ok-push-3.ensures.items)
    (one_more store c.push-2.new.self.items _ (subst (AreThere store) (sym c.in_ok-push-2.ensures.items) (one_more store c.args.stack.now.items _ c.requires.all next)) child)
