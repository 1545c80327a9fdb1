use Rattle.std.proofs.Common.{take}
use Rattle.span_core.specs.Lists.{Has}
use Rattle.plain_spanner.proofs.less.has_row.Given as goal

abbrev pub invariant-loop-other : goal.invariant-loop-other
invariant-loop-other l = Has (take l.other-index l.rows) l.row → ⊥
