use Rattle.std.proofs.Common.{◌+◌, ap, ◌∙◌, arith, add-one}
use Rattle.node_arena.specs.Copying.{copy_in}
use Rattle.node_arena.proofs.CopyLoops.{replaced_next}
use Rattle.node_arena.proofs.copying.replace_cells.Goals as goal

pub loop-cell-preserved : goal.loop-cell-preserved
loop-cell-preserved c =
    let i = c.loop-cell.cell-index in
    let within = c.loop-cell-test.true in
    replaced_next (copy_in c.args.numbers.now) c.args.cells.now c.loop-cell.cells i (i + 1) c.of.result c.cell-item.result (omega arith) (add-one i) c.loop-cell.invariant
    (c.of.ensures ∙ (c.copied.ensures ∙ ap (copy_in c.args.numbers.now) c.number.ensures))
