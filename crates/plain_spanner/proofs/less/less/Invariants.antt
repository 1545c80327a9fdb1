use Rattle.std.proofs.Common.{take}
use Rattle.span_core.specs.Lists.{Has}
use Rattle.plain_spanner.specs.Listed.{Tells}
use Rattle.plain_spanner.specs.Tables.{IsLeft}
use Rattle.plain_spanner.proofs.less.less.Given as goal

abbrev pub invariant-loop-row : goal.invariant-loop-row
invariant-loop-row l = Tells (Has l.rows.items) (IsLeft (take l.row-index l.left.rows.items) l.right.rows.items)
