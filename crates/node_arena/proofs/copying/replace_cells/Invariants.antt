use Rattle.std.proofs.Common.{◌≡◌, ◌++◌, map, take, drop}
use Rattle.node_arena.specs.Copying.{copy_in}
use Rattle.node_arena.proofs.copying.replace_cells.Given as goal

abbrev pub invariant-loop-cell : goal.invariant-loop-cell
invariant-loop-cell l = l.cells ≡ map (copy_in l.numbers) (take l.cell-index l.fn.cells) ++ drop l.cell-index l.fn.cells
